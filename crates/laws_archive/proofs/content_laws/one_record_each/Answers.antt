use Rattle.archive_core.proofs.Records.{record_of_operation, operation_of_record, one_operation}
use Rattle.laws_archive.proofs.content_laws.one_record_each.Goals as goal

pub returns : goal.returns
returns c = record { is_record = record_of_operation; is_operation = operation_of_record; one = one_operation }
