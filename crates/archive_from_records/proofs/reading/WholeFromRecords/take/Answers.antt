use Rattle.std.proofs.lemmas.Result.{on_ok_weaker}
use Rattle.std.proofs.Common.{ap, ◌∙◌}
use Rattle.archive_core.specs.Content.{with_record}
use Rattle.archive_records.proofs.Apart.{from_list-push}
use Rattle.archive_from_records.proofs.reading.WholeFromRecords.take.Goals as goal

pub returns : goal.returns
returns g c = on_ok_weaker c.take_record.result (λ taken start records apart is.
    let held = g.A.Join.content c.args.self.now.0 in
    taken ∙ ap (with_record held) c.record.ensures.bytes ∙ from_list-push records c.args.reader.now.last held is apart.0) c.take_record.ensures
