use Rattle.std.proofs.Common.{◌≡◌, take}
use Rattle.std.specs.List.{All}
use Rattle.command_common.specs.Inputs.{readers}
use Rattle.command_given_indexes.specs.Together.{AreAllKept}
use Rattle.index_lookup.specs.AmongAsked.{HaveTexts, each_known}
use Rattle.command_frames.specs.Asking.{IsAnsweredAt}
use Rattle.command_frames.specs.InnerKeyReplies.{IsRefusedAt, IsToldUnder, asked_in}
use Rattle.command_frames.proofs.key_answers.answer_keys.Given as goal

abbrev pub invariant-keys : goal.invariant-keys
invariant-keys g l = record {
  asked_is : asked_in l.told.items ≡ take l.one-index l.asked;
  are_true : All (IsToldUnder (IsAnsweredAt (HaveTexts g.I.Placed.whole l.fn.indexes)
      (readers g.P.Placed.whole g.P.Placed.failures l.fn.archives l.fn.archives) l.read l.lines)
      (IsRefusedAt (HaveTexts g.I.Placed.whole l.fn.indexes)
      (readers g.P.Placed.whole g.P.Placed.failures l.fn.archives l.fn.archives) l.read l.lines) l.slices) l.told.items;
  texts : each_known g.I.Placed.whole l.indexes ≡ each_known g.I.Placed.whole l.fn.indexes;
  counts : each_known g.I.Placed.failures l.indexes ≡ each_known g.I.Placed.failures l.fn.indexes;
  kept : AreAllKept g.P.Placed.whole g.P.Placed.failures l.fn.archives l.archives;
}
