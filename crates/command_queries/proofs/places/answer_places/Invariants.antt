use Rattle.std.proofs.Common.{take}
use Rattle.std.specs.List.{AllZip}
use Rattle.command_queries.specs.Places.{IsPlaceTold}
use Rattle.command_queries.specs.SourceFrames.{IsAnswerWithFrames}
use Rattle.command_queries.proofs.places.answer_places.Given as goal

abbrev pub invariant-places : goal.invariant-places
invariant-places g l =
    AllZip (IsPlaceTold (IsAnswerWithFrames (g.A.Join.content l.archive) l.key l.lines)) (take l.place-index l.places) l.told.items
