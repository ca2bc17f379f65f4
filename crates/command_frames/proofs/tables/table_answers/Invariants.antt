use Rattle.std.proofs.Common.{take}
use Rattle.std.specs.List.{AllZip}
use Rattle.command_queries.specs.Places.{IsPlaceTold}
use Rattle.command_frames.specs.InnerKeyReplies.{IsAnswerIn}
use Rattle.command_frames.proofs.tables.table_answers.Given as goal

abbrev pub invariant-places : goal.invariant-places
invariant-places l = AllZip (IsPlaceTold (IsAnswerIn l.answers l.lines l.places)) (take l.number l.places) l.told.items
