use Rattle.std.proofs.Common.{map, ap, ◌∙◌, arith}
use Rattle.std.proofs.lemmas.List.{take_all}
use Rattle.archive_core.specs.Lookup.{own_row}
use Rattle.index_lookup.specs.Views.{row_at}
use Rattle.index_lookup.proofs.Columns.{rows_more}
use Rattle.index_lookup.proofs.answers.rows_at.Goals as goal

pub columns-preserved : goal.columns-preserved
columns-preserved c =
    rows_more (row_at c.args.number) own_row c.args.columns.now c.columns.column-index c.column-item.result
    c.columns.rows.items c.push.new.self.items (c.column-item.result.digest, c.own.result) c.columns-test.true
    c.column-item.is c.in_ok-push.ensures.items
    (λ i. record { digest = c.column-item.result.digest.0; own = c.own.ensures i }) c.columns.invariant

pub returns : goal.returns
returns c = c.columns.invariant ∙ ap (map (row_at c.args.number)) (take_all c.columns.column-index c.args.columns.now (omega (arith, c.columns-test.false)))
