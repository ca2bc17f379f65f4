use Rattle.std.proofs.Common.{refl}
use Rattle.table_checked_pages.specs.GroupViews.{groups_view}
use Rattle.table_checked_pages.proofs.ReadLemmas.{passed_on}
use Rattle.table_checked_pages.proofs.GroupLemmas.{all_before, stored_end}
use Rattle.table_checked_pages.proofs.groups.Groups.bytes_before.Goals as goal

pub returns-then-index-self-clause-read : goal.returns-then-index-self-clause-read
returns-then-index-self-clause-read g c = record {
  says = λ text known all groups pages are. all_before all (groups_view c.args.self.now) groups are c.args.index c.if-index-self.true;
  keeps = refl;
  counts = refl;
}

pub returns-then-index-self-clause-bytes : goal.returns-then-index-self-clause-bytes
returns-then-index-self-clause-bytes g c = λ text all known pages. stored_end all (groups_view c.args.self.now) c.args.index c.if-index-self.true

pub returns-in_err-row-clause-read : goal.returns-in_err-row-clause-read
returns-in_err-row-clause-read g c =
    passed_on c.in_err-row.was c.from_residual.ensures.1
    (λ text known absent all stored pages held. absent all stored pages held)
    c.row.ensures.read

pub returns-clause-read : goal.returns-clause-read
returns-clause-read g c = record {
  says = λ text known all groups pages are. (c.in_ok-row.ensures.read.says text known all groups pages are).before;
  keeps = c.in_ok-row.ensures.read.keeps;
  counts = c.in_ok-row.ensures.read.counts;
}

pub returns-clause-bytes : goal.returns-clause-bytes
returns-clause-bytes g c = λ text all known pages. c.in_ok-row.ensures.bytes text all known pages
