use Rattle.std.proofs.Common.{◌≡◌, ◌∙◌, [], ℕ, List, Some, ap, map, refl, subst, sym, Contains}
use Rattle.dwarf_lines.specs.declared.registers.Row.{Row}
use Rattle.dwarf_functions.specs.RowSteps.{AreRowSteps}
use Rattle.dwarf_source_frames.specs.AddressFrames.{rows_of}
use Rattle.dwarf_source_frames.specs.FrameViews.{lines_view}
use Rattle.dwarf_source_frames.specs.Frames.{FrameRecord}
use Rattle.dwarf_source_frames.specs.SectionsViews.{sections_view}
use Rattle.dwarf_source_frames.specs.UnitViews.{unit_view}
use Rattle.dwarf_asked_addresses.specs.Rising.{AreRising}
use Rattle.dwarf_frame_changes.specs.Between.{AreTurnsFrom, parts_of}
use Rattle.dwarf_frame_changes.specs.ByProgram.{rows_at}
use Rattle.dwarf_frame_changes.specs.Given.{Takes}
use Rattle.dwarf_frame_changes.proofs.GivenLemmas.{bare_turns, none_read, takes_more, turn_with}
use Rattle.dwarf_frame_changes.proofs.UnitStepLemmas.{step_boundary}
use Rattle.dwarf_frame_changes.proofs.ProgramLemmas.{rows_of_unit}
use Rattle.dwarf_frame_changes.proofs.UnitTurnLemmas.{are_steps, turns_in_unit}
use Rattle.dwarf_frame_changes.proofs.unit_by_unit.push_unit_turns.Goals as goal

pub returns-in_default-clause-given : goal.returns-in_default-clause-given
returns-in_default-clause-given g c =
    let s = sections_view c.args.info.now.sections in
    let none : ℕ → List FrameRecord = λ a. [] in
    let turns : List ℕ = c.args.of.now.boundaries.items in (
      map (turn_with none) turns,
      subst (λ (xs : List ℕ). Takes (g.T.FrameSink.has_received c.args.sink.now)
          (g.T.FrameSink.has_received c.push_without_frames.new.sink) (map (turn_with none) xs)) c.deref.ensures.value
          c.in_ok-push_without_frames.ensures.given,
      bare_turns s c.args.steps.now.starts.items c.args.steps.now.places.items c.requires.steps (Some c.args.of.now.place) turns turns c.requires.boundaries
          c.requires.rising (λ a h. c.in_ok-push_without_frames.ensures.fits a
          (subst (λ (xs : List ℕ). Contains xs a) (sym c.deref.ensures.value) h)) (λ a. (λ h. h, λ h. h))
          (sym c.in_default.ensures.value) (λ a is turn. none_read s a c.args.of.now.place
          c.in_default.ensures.value is turn),
    )

pub push_all_turns-requires : goal.push_all_turns-requires
push_all_turns-requires g c = λ κs.
    let s = sections_view c.args.info.now.sections in
    let unit = unit_view c.in-Some.unit in
    let lines = lines_view c.in_ok-lines.lines in
    let steps = c.requires.steps in
    let parts = parts_of lines c.run.new.self.rows c.in_ok-parts.parts.links in
    let rows_are : rows_of lines ≡ rows_at s c.program_offset.result =
    rows_of_unit s unit lines c.program_offset.result c.in_ok-lines.ensures.value c.program_offset.ensures in
    let rows_back : rows_at s c.run.new.self.program ≡ rows_of lines = ap (rows_at s) c.in_ok-run.ensures.program ∙ sym rows_are in
    let row_steps : AreRowSteps (rows_of lines) parts.row_starts parts.rows =
    subst (λ (rs : List Row). AreRowSteps rs parts.row_starts parts.rows) rows_back
    (c.in_ok-run.ensures.rows s c.requires.last rows_are) in (
      (refl, tt),
      (
        subst (λ (xs : List ℕ). AreRising xs) (sym c.deref-2.ensures.value) c.requires.rising,
        (
          steps.rising,
          (
            λ a h. (steps.all a).1 (step_boundary s c.args.steps.now.starts.items c.args.steps.now.places.items steps a
                (Some c.args.of.now.place) ((c.requires.boundaries a).0
                (subst (λ (xs : List ℕ). Contains xs a) c.deref-2.ensures.value h))),
            (are_steps s unit parts c.in_ok-lines.ensures.value row_steps c.in_ok-parts.ensures.links, c.in_ok-parts.ensures.told),
          ),
        ),
      ),
    )

pub returns-clause-last : goal.returns-clause-last
returns-clause-last g c =
    let s = sections_view c.args.info.now.sections in
    c.in_ok-run.ensures.rows s c.requires.last (rows_of_unit s (unit_view c.in-Some.unit)
    (lines_view c.in_ok-lines.lines) c.program_offset.result c.in_ok-lines.ensures.value c.program_offset.ensures)

pub returns-clause-given : goal.returns-clause-given
returns-clause-given g c =
    let s = sections_view c.args.info.now.sections in
    let unit = unit_view c.in-Some.unit in
    let lines = lines_view c.in_ok-lines.lines in
    let starts = c.args.steps.now.starts.items in
    let parts = parts_of lines c.run.new.self.rows c.in_ok-parts.parts.links in
    let rows_are : rows_of lines ≡ rows_at s c.program_offset.result =
    rows_of_unit s unit lines c.program_offset.result c.in_ok-lines.ensures.value c.program_offset.ensures in
    let rows_back : rows_at s c.run.new.self.program ≡ rows_of lines = ap (rows_at s) c.in_ok-run.ensures.program ∙ sym rows_are in
    let row_steps : AreRowSteps (rows_of lines) parts.row_starts parts.rows =
    subst (λ (rs : List Row). AreRowSteps rs parts.row_starts parts.rows) rows_back
    (c.in_ok-run.ensures.rows s c.requires.last rows_are) in
    let given = c.in_ok-push_all_turns.ensures in
    let are : AreTurnsFrom parts starts c.args.of.now.boundaries.items given.0 =
    subst (λ (xs : List ℕ). AreTurnsFrom parts starts xs given.0) c.deref-2.ensures.value given.2 in (
      given.0,
      takes_more (g.T.FrameSink.has_received c.args.sink.now) (g.T.FrameSink.has_received c.read-2.new.sink)
          (g.T.FrameSink.has_received c.push_all_turns.new.sink) [] given.0 c.in_ok-parts.ensures.taken given.1,
      turns_in_unit s unit parts c.in_ok-lines.ensures.value row_steps c.in_ok-parts.ensures.links c.args.of.now.place
          c.in-Some.ensures.value starts c.args.steps.now.places.items c.requires.steps c.args.of.now.boundaries.items
          c.requires.boundaries given.0 are,
    )
