use Rattle.std.proofs.Common.{length}
use Rattle.command_frames.specs.InnerPlaces.{AreGroupedSoFar}
use Rattle.command_frames.proofs.places.under_keys.Given as goal

abbrev pub invariant-places : goal.invariant-places
invariant-places l = AreGroupedSoFar l.asked l.left l.keys.items

abbrev pub decreases-places : goal.decreases-places
decreases-places l = length l.left
