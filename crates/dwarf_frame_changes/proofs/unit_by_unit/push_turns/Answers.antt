use Rattle.std.proofs.Common.{[], ◌++◌, ℕ, List, None, map, refl, subst, sym, Contains}
use Rattle.dwarf_source_frames.specs.DebugSections.{DebugSectionsRecord}
use Rattle.dwarf_source_frames.specs.Frames.{FrameRecord}
use Rattle.dwarf_source_frames.specs.SectionsViews.{sections_view}
use Rattle.dwarf_frame_changes.specs.Given.{AreTurnsBy, Takes}
use Rattle.dwarf_frame_changes.proofs.GivenLemmas.{all_turns, bare_turns, none_at, takes_more, turn_with}
use Rattle.dwarf_frame_changes.proofs.UnitStepLemmas.{some_unit}
use Rattle.dwarf_frame_changes.proofs.unit_by_unit.push_turns.Goals as goal

pub returns : goal.returns
returns g c =
    let s = sections_view c.in_ok-info.info.sections in
    let starts = c.in_ok-steps.steps.starts.items in
    let places = c.in_ok-steps.steps.places.items in
    let steps = c.in_ok-steps.ensures in
    let none : ℕ → List FrameRecord = λ a. [] in
    let without : List ℕ = c.sorted_once-without.result.items in
    let given = c.in_ok-push_turns_of_units.ensures.0 in
    let lone = bare_turns s starts places steps None c.in_ok-without.without.items without c.in_ok-without.ensures.without
    c.sorted_once-without.ensures.rising (λ a h. c.in_ok-push_without_frames.ensures.fits a
    (subst (λ (xs : List ℕ). Contains xs a) (sym c.deref.ensures.value) h)) c.sorted_once-without.ensures.same refl
    (λ a is turn. none_at s a is turn) in
    let first = subst (λ (xs : List ℕ). Takes (g.T.FrameSink.has_received c.args.sink.now)
    (g.T.FrameSink.has_received c.push_without_frames.new.sink) (map (turn_with none) xs)) c.deref.ensures.value
    c.in_ok-push_without_frames.ensures.given in (
      map (turn_with none) without ++ given,
      takes_more (g.T.FrameSink.has_received c.args.sink.now) (g.T.FrameSink.has_received c.push_without_frames.new.sink)
          (g.T.FrameSink.has_received c.push_turns_of_units.new.sink) (map (turn_with none) without) given first
          c.in_ok-push_turns_of_units.ensures.1,
      subst (λ (x : DebugSectionsRecord). AreTurnsBy x (map (turn_with none) without ++ given)) c.in_ok-info.ensures
          (all_turns s (map (turn_with none) without) given lone c.in_ok-push_turns_of_units.ensures.2 (λ a fits. some_unit s starts places a steps fits)),
    )
