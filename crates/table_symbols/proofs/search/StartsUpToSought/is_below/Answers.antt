use Rattle.std.proofs.Common.{arith}
use Rattle.table_checked_pages.proofs.ReadLemmas.{passed_on}
use Rattle.table_symbols.proofs.RowLemmas.{start_decides}
use Rattle.table_symbols.proofs.search.StartsUpToSought.is_below.Goals as goal

pub returns-in_err-row-clause-read : goal.returns-in_err-row-clause-read
returns-in_err-row-clause-read g c =
    passed_on c.in_err-row.was c.from_residual.ensures.1
    (λ text known absent all stored pages held. absent all stored pages (omega (arith, held, c.requires)))
    c.row_at.ensures.read

pub returns-clause-read : goal.returns-clause-read
returns-clause-read g c = record {
  says = λ text known all rows pages stand.
      start_decides rows c.args.self.now.address c.args.place c.in_ok-row.row
      (c.in_ok-row.ensures.read.says text known all rows pages stand.0 stand.2 (omega (arith, c.requires, stand.1)));
  keeps = c.in_ok-row.ensures.read.keeps;
  counts = c.in_ok-row.ensures.read.counts;
}
