use Rattle.std.proofs.Common.{◌≡◌, ◌-◌, ◌^◌, List, IfSome}
use Rattle.std.specs.Option.{option_map_or}
use Rattle.dwarf_source_frames.specs.FrameViews.{lines_view}
use Rattle.dwarf_asked_addresses.specs.Rising.{IsCountBelow}
use Rattle.dwarf_frame_changes.specs.Between.{IsMerged, parts_of}
use Rattle.dwarf_frame_changes.specs.Given.{Takes, TurnRecord}
use Rattle.dwarf_frame_changes.specs.UnitNumbers.{ArePartsTold}
use Rattle.dwarf_frame_changes.proofs.MergeLemmas.{AreTurnsBelow}
use Rattle.dwarf_frame_changes.proofs.merging.UnitParts.push_turns_between.Given as goal

abbrev pub invariant-turns : goal.invariant-turns
invariant-turns g l = record {
  links : l.self.links ≡ l.fn.self.links;
  told : ArePartsTold (g.T.FrameSink.numbers_name l.sink) (g.T.FrameSink.numbers_path l.sink) (g.T.FrameSink.numbers_frames l.sink) (lines_view l.lines) l.self;
  row : IfSome l.address (λ at. IsCountBelow l.rows.starts.items at l.row);
  link : IfSome l.address (λ at. IsCountBelow l.fn.self.links.starts.items at l.link);
  here : IfSome l.address (λ at. IsMerged (parts_of (lines_view l.lines) l.rows l.fn.self.links) l.from l.end at);
  given : (given : List TurnRecord) × Takes (g.T.FrameSink.has_received l.fn.sink) (g.T.FrameSink.has_received l.sink)
      given × AreTurnsBelow (parts_of (lines_view l.lines) l.rows l.fn.self.links) l.from l.end l.address given;
}

abbrev pub decreases-turns : goal.decreases-turns
decreases-turns g l = option_map_or (λ a. 2 ^ 64 - a) l.address 0
