use Rattle.std.proofs.Common.{take}
use Rattle.command_frames.specs.InnerSlices.{AreRowsUnder}
use Rattle.command_frames.proofs.record_slices.rows_under.Given as goal

abbrev pub invariant-uuids : goal.invariant-uuids
invariant-uuids g l = AreRowsUnder (g.A.Join.content l.archive) (take l.uuid-index l.uuids) l.pool.items
