use Rattle.archive_from_records.proofs.RowsTold.{rows_more}
use Rattle.archive_from_records.proofs.rows.RowsFromRecords.take.Goals as goal

pub returns : goal.returns
returns c = λ start records apart is.
    rows_more records c.args.reader.now.last c.record.result _ _ c.of.result c.in_ok-push.ensures.items
    c.record.ensures.bytes c.of.ensures.row c.of.ensures.operation c.of.ensures.key is
