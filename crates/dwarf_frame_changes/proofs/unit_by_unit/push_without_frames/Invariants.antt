use Rattle.std.proofs.Common.{[], map, take}
use Rattle.dwarf_frame_changes.specs.Given.{Takes, without_frames}
use Rattle.dwarf_frame_changes.proofs.unit_by_unit.push_without_frames.Given as goal

abbrev pub invariant-loop-address : goal.invariant-loop-address
invariant-loop-address g l = record {
  taken : Takes (g.T.FrameSink.has_received l.fn.sink) (g.T.FrameSink.has_received l.sink) (map (λ a. without_frames a) (take l.address-index l.addresses));
  none : g.T.FrameSink.numbers_frames l.sink l.none [];
}
