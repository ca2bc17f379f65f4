use Rattle.archive_records.specs.Kind.{archive_format}
use Rattle.archive_records.proofs.Exact.{one_fault as exact}
use Rattle.laws_archive.proofs.text_laws.one_fault.Goals as goal

pub returns : goal.returns
returns c = λ text. exact (archive_format text) text
