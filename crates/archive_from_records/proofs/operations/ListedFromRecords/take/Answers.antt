use Rattle.std.proofs.Common.{ap, subst, sym, ◌∙◌}
use Rattle.archive_core.specs.Record.{IsOperation, record_bytes}
use Rattle.archive_from_records.proofs.Gathered.{listed_more}
use Rattle.archive_from_records.proofs.operations.ListedFromRecords.take.Goals as goal

pub returns : goal.returns
returns c = λ question records apart is.
    let copied = c.in_ok-operation.ensures in
    listed_more _ _ records c.args.reader.now.last (
      _,
      c.in_ok-push.ensures.items,
      subst IsOperation (sym copied) c.record.ensures.operation,
      ap record_bytes copied ∙ c.record.ensures.bytes,
    ) is
