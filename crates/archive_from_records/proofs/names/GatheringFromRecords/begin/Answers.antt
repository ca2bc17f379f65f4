use Rattle.std.proofs.Common.{refl}
use Rattle.archive_from_records.proofs.Gatherings.{start_retired, start_rows}
use Rattle.archive_from_records.proofs.names.GatheringFromRecords.begin.Goals as goal

pub returns : goal.returns
returns c = (refl, refl, start_rows _ _, start_rows _ _, start_retired _)
