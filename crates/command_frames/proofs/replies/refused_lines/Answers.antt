use Rattle.std.proofs.Common.{List, ℕ, ◌++◌, ap, sym, ◌∙◌, arith}
use Rattle.std.specs.Option.{option_to_list}
use Rattle.command_frames.specs.InnerKeyReplies.{refusal_in}
use Rattle.command_frames.specs.Refusals.{refusal_lines}
use Rattle.command_frames.proofs.Shown.{refusals_more}
use Rattle.command_frames.proofs.replies.refused_lines.Goals as goal

pub keys-preserved : goal.keys-preserved
keys-preserved c =
    let one = c.one-item.result in
    c.in_ok-push_refusal.ensures ∙ ap (λ (t : List ℕ). t ++ refusal_lines (option_to_list (refusal_in one.asked.now.key one.told))) c.keys.invariant
    ∙ sym (refusals_more c.args.told.now c.keys.one-index one (omega arith) c.one-item.is)
