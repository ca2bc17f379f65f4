use Rattle.std.proofs.Common.{not, rules}
use Rattle.std.specs.FinSet.{contains}
use Rattle.std.proofs.lemmas.Fn.{filter_same}
use Rattle.archive_core.specs.Record.{retirement_record}
use Rattle.archive_from_records.proofs.Gatherings.{live_kept}
use Rattle.archive_from_records.proofs.names.keep_live.Goals as goal

pub returns-clause-live : goal.returns-clause-live
returns-clause-live c = λ row.
    let kept = filter_same _ (λ one. not (contains c.args.retired.now (retirement_record one.key one.digest.0))) _
    (λ x b f' k. search rules) _ _ c.retain.ensures.filtered in
    live_kept c.args.retired.now c.args.rows.now.items _ _ kept c.put_names_in_order.ensures.same row
