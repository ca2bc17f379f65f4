use Rattle.std.proofs.Common.{arith}
use Rattle.std.proofs.lemmas.Grind.{common_steps}
use Rattle.std.proofs.lemmas.List.Elements.{All-more}
use Rattle.table_symbols.specs.Rows.{IsRow}
use Rattle.table_symbols.proofs.text.push_rows.Goals as goal

pub loop-row-preserved : goal.loop-row-preserved
loop-row-preserved c = record {
  fit = All-more IsRow c.args.rows.now c.loop-row.row-index _ c.loop-row-test.true c.loop-row.invariant.fit c.in_ok-push_row.ensures.fits;
  pushed = grind (arith, common_steps);
}
