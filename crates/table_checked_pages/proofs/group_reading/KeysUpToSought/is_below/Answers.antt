use Rattle.table_checked_pages.proofs.ReadLemmas.{passed_on}
use Rattle.table_checked_pages.proofs.GroupLemmas.{key_decides}
use Rattle.table_checked_pages.proofs.group_reading.KeysUpToSought.is_below.Goals as goal

pub returns-in_err-row-clause-read : goal.returns-in_err-row-clause-read
returns-in_err-row-clause-read g c =
    passed_on c.in_err-row.was c.from_residual.ensures.1
    (λ text known absent all stored pages held. absent all stored pages held)
    c.row.ensures.read

pub returns-clause-read : goal.returns-clause-read
returns-clause-read g c = record {
  says = λ text known all groups pages are.
      key_decides groups c.args.self.now.key c.in_ok-row.row.key c.args.place (c.in_ok-row.ensures.read.says text known all groups pages are).key;
  keeps = c.in_ok-row.ensures.read.keeps;
  counts = c.in_ok-row.ensures.read.counts;
}
