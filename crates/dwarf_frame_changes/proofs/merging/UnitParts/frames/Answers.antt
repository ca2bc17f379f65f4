use Rattle.std.proofs.Common.{◌∷◌, ◌-◌, ◌≡◌, ◌<◌, suc, length, refl, subst, arith}
use Rattle.dwarf_functions.specs.LinkViews.{links_view}
use Rattle.dwarf_source_frames.specs.FrameViews.{lines_view}
use Rattle.dwarf_source_frames.specs.Frames.{path_in, location_of_row}
use Rattle.dwarf_source_frames.specs.declared.frame.SourceLocation.{SourceLocation}
use Rattle.dwarf_functions.specs.Links.{AreFramesOfLink, frame_at_place}
use Rattle.dwarf_frame_changes.specs.UnitNumbers.{row_frames}
use Rattle.dwarf_frame_changes.proofs.NumberLemmas.{frames_of_link, frames_of_row_alone, frames_with_link, linked_still, numbers_of, paths_still, still_more}
use Rattle.dwarf_frame_changes.proofs.merging.UnitParts.frames.Goals as goal

pub returns-then-number-eq0-clause-is : goal.returns-then-number-eq0-clause-is
returns-then-number-eq0-clause-is g c = (
  row_frames (lines_view c.args.lines.now) c.args.row,
  frames_of_row_alone (lines_view c.args.lines.now) (links_view c.args.self.now.links.links.items) c.args.row c.args.number c.if-number-eq0.true,
  c.in_ok-alone.ensures.is,
)

pub returns-then-number-eq0-clause-told : goal.returns-then-number-eq0-clause-told
returns-then-number-eq0-clause-told g c = record {
  paths = c.in_ok-alone.ensures.kept;
  callers = c.requires.told.callers;
  linked = linked_still (g.T.FrameSink.numbers_name c.args.sink.now)
      (g.T.FrameSink.numbers_name c.frames_of_row.new.sink) (g.T.FrameSink.numbers_frames c.args.sink.now)
      (g.T.FrameSink.numbers_frames c.frames_of_row.new.sink)
      c.frames_of_row.ensures.names c.frames_of_row.ensures.frames (lines_view c.args.lines.now)
      (links_view c.args.self.now.links.links.items) (length c.args.self.now.links.links.items)
      c.args.self.now.linked.items c.requires.told.linked;
}

pub frames-requires : goal.frames-requires
frames-requires g c = λ κs.
    let n = c.args.number - 1 in
    let told = c.requires.told.linked in
    let within : n < length c.args.self.now.linked.items = omega (arith, told.count_is, c.requires.within, c.if-number-eq0.false) in
    let inside : n < length c.args.self.now.links.links.items = omega (arith, c.requires.within, c.if-number-eq0.false) in
    let of = numbers_of (g.T.FrameSink.numbers_name c.args.sink.now) (g.T.FrameSink.numbers_frames c.args.sink.now)
    (lines_view c.args.lines.now) c.args.self.now.links.links.items (length c.args.self.now.links.links.items)
    c.args.self.now.linked.items n c.index-of.result.now told within c.index-of.ensures inside in (
      (refl, tt),
      (
        (of.0.name, c.number.ensures.names _ _ of.2.name),
        (
          (path_in (lines_view c.args.lines.now) c.of_row-place.result.file, c.in_ok-path.ensures.is),
          (of.2.outer, c.number.ensures.frames _ _ of.2.callers),
        ),
      ),
    )

pub returns-clause-is : goal.returns-clause-is
returns-clause-is g c =
    let lines = lines_view c.args.lines.now in
    let links = links_view c.args.self.now.links.links.items in
    let n = c.args.number - 1 in
    let some : c.args.number ≡ suc n = omega (arith, c.if-number-eq0.false) in
    let told = c.requires.told.linked in
    let within : n < length c.args.self.now.linked.items = omega (arith, told.count_is, c.requires.within, c.if-number-eq0.false) in
    let inside : n < length c.args.self.now.links.links.items = omega (arith, c.requires.within, c.if-number-eq0.false) in
    let of = numbers_of (g.T.FrameSink.numbers_name c.args.sink.now) (g.T.FrameSink.numbers_frames c.args.sink.now)
    lines c.args.self.now.links.links.items (length c.args.self.now.links.links.items) c.args.self.now.linked.items
    n c.index-of.result.now told within c.index-of.ensures inside in
    let place : ◌≡◌ {A = SourceLocation} c.of_row-place.result (location_of_row c.args.row) = c.of_row-place.ensures in
    let frames = frame_at_place lines of.0.name c.of_row-place.result ∷ of.2.outer in
    let are : AreFramesOfLink lines links (location_of_row c.args.row) c.args.number frames =
    subst (λ (p : SourceLocation). AreFramesOfLink lines links p c.args.number frames) place
    (frames_of_link lines links c.of_row-place.result c.args.number n of.0 of.2.outer some of.1 (c.requires.told.callers n of.0 of.1) of.2.are_outer) in (
      frames,
      frames_with_link lines links c.args.row c.args.number n frames some are,
      c.in_ok-found.ensures.is of.0.name (path_in lines c.of_row-place.result.file) of.2.outer
          (c.number.ensures.names _ _ of.2.name) c.in_ok-path.ensures.is (c.number.ensures.frames _ _ of.2.callers),
    )

pub returns-clause-told : goal.returns-clause-told
returns-clause-told g c =
    let P = g.T.FrameSink.numbers_name in
    let Q = g.T.FrameSink.numbers_path in
    let F = g.T.FrameSink.numbers_frames in
    let lines = lines_view c.args.lines.now in
    let names = still_more (P c.args.sink.now) (P c.number.new.sink) (P c.frames.new.self) c.number.ensures.names c.frames.ensures.names in
    let frames = still_more (F c.args.sink.now) (F c.number.new.sink) (F c.frames.new.self) c.number.ensures.frames c.frames.ensures.frames in
    record {
      paths = paths_still (Q c.number.new.sink) (Q c.frames.new.self) lines c.number.new.self c.frames.ensures.paths c.in_ok-path.ensures.kept;
      callers = c.requires.told.callers;
      linked = linked_still (P c.args.sink.now) (P c.frames.new.self) (F c.args.sink.now) (F c.frames.new.self) names
          frames lines (links_view c.args.self.now.links.links.items) (length c.args.self.now.links.links.items)
          c.args.self.now.linked.items c.requires.told.linked;
    }
