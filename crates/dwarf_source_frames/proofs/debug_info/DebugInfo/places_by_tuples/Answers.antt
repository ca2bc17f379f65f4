use Rattle.std.proofs.Common.{arith}
use Rattle.dwarf_source_frames.proofs.debug_info.DebugInfo.places_by_tuples.Goals as goal

pub returns : goal.returns
returns c =
    let known = c.loop-address.invariant in
    record {
      place_of = λ i h. known.place_of i (omega (arith, c.loop-address-test.false, h));
      waits = λ i h. known.waits i (omega (arith, c.loop-address-test.false, h));
      places_only = known.places_only;
      pending_only = known.pending_only;
    }
