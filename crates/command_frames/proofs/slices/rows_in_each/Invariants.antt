use Rattle.std.proofs.Common.{take}
use Rattle.archive_core.specs.Part.{is_under}
use Rattle.index_lookup.specs.Among.{all_of}
use Rattle.command_given_indexes.specs.Rows.{AreRowsAmong}
use Rattle.command_frames.proofs.slices.rows_in_each.Given as goal

abbrev pub invariant-indexes : goal.invariant-indexes
invariant-indexes l = AreRowsAmong (is_under l.uuid) (all_of (take l.index-index l.read)) l.rows.items
