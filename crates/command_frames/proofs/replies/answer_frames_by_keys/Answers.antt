use Rattle.std.proofs.Common.{sym, arith}
use Rattle.std.proofs.lemmas.List.Elements.{All-contains}
use Rattle.command_frames.specs.InnerKeyReplies.{HaveEach}
use Rattle.command_frames.specs.declared.key_answers.KeyAnswers.{KeyAnswers}
use Rattle.command_frames.proofs.Shown.{more_frames, numbered_there}
use Rattle.command_frames.proofs.replies.answer_frames_by_keys.Goals as goal

pub reply_at-number-requires : goal.reply_at-number-requires
reply_at-number-requires c = record {
  order = c.requires.asked.order;
  there = c.requires.asked.whole c.frame-item.result (c.frames.frame-index, omega arith, sym c.frame-item.is);
}

pub push_reply-requires : goal.push_reply-requires
push_reply-requires c =
    let stands = c.reply_at-number.ensures in
    let one = c.reply_at-number.result.0.now in
    numbered_there one.told one.asked.now.places.items c.reply_at-number.result.1 _
    (All-contains (λ (k : KeyAnswers). HaveEach k.told k.asked.now.places.items) c.args.told.now one c.requires.even stands.is_one) stands.place_is

pub frames-preserved : goal.frames-preserved
frames-preserved c =
    more_frames _ c.args.frames.now c.frames.frame-index c.frame-item.result _ _ _ _
    c.reply_at-number.result.0.now c.reply_at-number.result.1 (omega arith) c.frame-item.is c.frames.invariant
    c.reply_at-number.ensures c.in_ok-status.ensures
