use Rattle.std.proofs.Common.{◌≡◌, ◌<◌, ◌++◌, [], List, arith, length, refl, subst, sym}
use Rattle.std.proofs.lemmas.List.{length-map}
use Rattle.dwarf_lines.specs.declared.registers.Row.{Row}
use Rattle.dwarf_functions.specs.RowSteps.{AreRowSteps}
use Rattle.dwarf_source_frames.specs.SectionsViews.{sections_view}
use Rattle.dwarf_frame_changes.specs.ByProgram.{AreBoundariesBy, places}
use Rattle.dwarf_frame_changes.specs.declared.unit_by_unit.UnitBoundaries.{UnitBoundaries}
use Rattle.dwarf_frame_changes.proofs.GivenLemmas.{takes_more, takes_none, far_end, far_more, far_start}
use Rattle.dwarf_frame_changes.proofs.ProgramLemmas.{listed_at, no_rows_at, place_at}
use Rattle.dwarf_frame_changes.proofs.unit_by_unit.push_turns_of_units.Goals as goal

pub loop-unit-init : goal.loop-unit-init
loop-unit-init g c =
    let s = sections_view c.args.info.now.sections in
    record {
      last = subst (λ (rs : List Row). AreRowSteps rs c.none.result.starts.items c.none.result.rows.items) (sym (no_rows_at s)) c.none.ensures;
      given = ([], takes_none (g.T.FrameSink.has_received c.args.sink.now), far_start s (places c.deref-unit-items.result.now));
    }

pub push_unit_turns-requires : goal.push_unit_turns-requires
push_unit_turns-requires g c = λ κs.
    let are : AreBoundariesBy c.args.by_unit c.deref-unit-items.result.now =
    subst (λ (xs : List UnitBoundaries). AreBoundariesBy c.args.by_unit xs) (sym c.deref-unit-items.ensures.value)
    c.in_ok-all.ensures in
    let listed = listed_at c.args.by_unit c.deref-unit-items.result.now c.loop-unit.unit-index c.unit-item.result are
    (omega (arith, c.loop-unit-test.true)) c.unit-item.is in (
      (refl, tt),
      (
        c.requires.lines,
        (
          c.requires.steps,
          (
            listed.0,
            (
              λ a. (
                λ h. (c.requires.boundaries c.unit-item.result.place a).0 ((listed.1 a).0 h),
                λ h. (listed.1 a).1 ((c.requires.boundaries c.unit-item.result.place a).1 h),
              ),
              c.loop-unit.invariant.last,
            ),
          ),
        ),
      ),
    )

pub loop-unit-preserved : goal.loop-unit-preserved
loop-unit-preserved g c =
    let s = sections_view c.args.info.now.sections in
    let all = c.deref-unit-items.result.now in
    let are : AreBoundariesBy c.args.by_unit all = subst
    (λ (xs : List UnitBoundaries). AreBoundariesBy c.args.by_unit xs) (sym c.deref-unit-items.ensures.value)
    c.in_ok-all.ensures in
    let within : c.loop-unit.unit-index < length all = omega (arith, c.loop-unit-test.true) in
    let n : length (places all) ≡ length all = length-map all (λ u. u.place) in
    let given = c.in_ok-push_unit_turns.ensures.given in
    record {
      last = c.in_ok-push_unit_turns.ensures.last;
      given = (
        c.loop-unit.invariant.given.0 ++ given.0,
        takes_more (g.T.FrameSink.has_received c.args.sink.now) (g.T.FrameSink.has_received c.loop-unit.sink)
            (g.T.FrameSink.has_received c.push_unit_turns.new.sink) c.loop-unit.invariant.given.0 given.0
            c.loop-unit.invariant.given.1 given.1,
        far_more s (places all) c.loop-unit.unit-index c.unit-item.result.place c.loop-unit.invariant.given.0 given.0
            (omega (arith, n, within)) (place_at all c.loop-unit.unit-index c.unit-item.result within c.unit-item.is)
            are.once c.loop-unit.invariant.given.2 given.2,
      );
    }

pub returns : goal.returns
returns g c =
    let s = sections_view c.args.info.now.sections in
    let all = c.deref-unit-items.result.now in
    let are : AreBoundariesBy c.args.by_unit all = subst
    (λ (xs : List UnitBoundaries). AreBoundariesBy c.args.by_unit xs) (sym c.deref-unit-items.ensures.value)
    c.in_ok-all.ensures in
    let n : length (places all) ≡ length all = length-map all (λ u. u.place) in (
      c.loop-unit.invariant.given.0,
      c.loop-unit.invariant.given.1,
      far_end s c.args.steps.now.starts.items c.args.steps.now.places.items c.args.by_unit all c.loop-unit.unit-index
          c.loop-unit.invariant.given.0 c.requires.steps c.requires.boundaries are
          (omega (arith, n, c.loop-unit-test.false)) c.loop-unit.invariant.given.2,
    )
