use Rattle.archive_records.proofs.OperationRecords.{one_list}
use Rattle.archive_from_records.proofs.operations.ListedFromRecords.finish.Goals as goal

pub returns : goal.returns
returns c = λ question operations are is. one_list c.args.self.0.items operations is.0 are is.1
