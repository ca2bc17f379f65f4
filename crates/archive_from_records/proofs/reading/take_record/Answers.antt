use Rattle.std.proofs.Common.{◌∙◌, ap}
use Rattle.archive_core.specs.Content.{with_record}
use Rattle.archive_core.specs.Record.{record_bytes}
use Rattle.archive_from_records.proofs.reading.take_record.Goals as goal

pub returns : goal.returns
returns g c = c.in_ok-take.ensures.taken ∙ ap (λ operation. with_record (g.A.Join.content c.args.archive.now)
    (record_bytes operation)) c.in_ok-operation.ensures
