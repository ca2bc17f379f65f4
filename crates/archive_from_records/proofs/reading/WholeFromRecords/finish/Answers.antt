use Rattle.std.proofs.Common.{sym, ◌∙◌}
use Rattle.archive_records.proofs.Contents.{content_is}
use Rattle.archive_from_records.proofs.reading.WholeFromRecords.finish.Goals as goal

pub returns : goal.returns
returns g c = λ question o content is. is ∙ sym (content_is o)
