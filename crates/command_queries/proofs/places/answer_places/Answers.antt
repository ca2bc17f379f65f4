use Rattle.std.proofs.Common.{get_or}
use Rattle.std.proofs.lemmas.List.{get_or_default}
use Rattle.std.proofs.lemmas.List.Elements.{Contains-get_or}
use Rattle.archive_core.specs.declared.lookup.Where.TheVariants.{File}
use Rattle.command_queries.specs.Places.{IsPlaceTold}
use Rattle.command_queries.specs.SourceFrames.{IsAnswerWithFrames}
use Rattle.command_queries.proofs.Placed.{placed_more}
use Rattle.command_queries.proofs.places.answer_places.Goals as goal

pub places-init : goal.places-init
places-init g c = rw c.in_ok-told.ensures.items tt

pub places-preserved : goal.places-preserved
places-preserved g c =
    let place = get_or c.args.places.now c.places.place-index (File 0) in
    let there = c.in_ok-sources.ensures place (Contains-get_or c.args.places.now c.places.place-index (File 0) c.places-test.true) in
    placed_more (IsPlaceTold (IsAnswerWithFrames (g.A.Join.content c.args.archive.now) c.args.key.now c.args.lines))
    c.args.places.now c.places.place-index place c.places.told.items c.push.new.self.items c.in_ok-answer_place.field-0
    c.places-test.true (get_or_default c.args.places.now c.places.place-index (File 0) place c.places-test.true) c.in_ok-push.ensures.items c.places.invariant
    (c.in_ok-answer_place.ensures c.args.lines there)
