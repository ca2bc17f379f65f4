use Rattle.std.proofs.Common.{◌+◌, ◌*◌, length, refl, ◌∙◌, arith}
use Rattle.table_checked_pages.specs.GroupViews.{groups_view}
use Rattle.table_checked_pages.proofs.ReadLemmas.{passed_on}
use Rattle.table_checked_pages.proofs.GroupLemmas.{groups_within, row_read, stored_row}
use Rattle.table_checked_pages.proofs.groups.Groups.row.Goals as goal

pub returns-in_err-read-clause-read : goal.returns-in_err-read-clause-read
returns-in_err-read-clause-read g c =
    passed_on c.in_err-read.was c.from_residual.ensures.1
    (λ text known absent all stored pages held. absent all stored pages
    (omega (arith, groups_within all (groups_view c.args.self.now) held.0 held.1, c.requires, c.read.auto.buf)))
    c.read.ensures.read

pub returns-clause-read : goal.returns-clause-read
returns-clause-read g c = record {
  says = λ text known all groups pages are.
      row_read all (groups_view c.args.self.now) groups are c.read.new.buf c.args.index (length c.read.new.buf)
      (c.args.self.now.offset + 16 * c.args.index) _ c.requires c.read.auto.buf refl (omega (arith, c.args.self.now.fits))
      (c.in_ok-read.ensures.read.says text known all pages) c.u64_be_at.ensures c.u64_be_at-2.ensures;
  keeps = c.in_ok-read.ensures.read.keeps;
  counts = c.in_ok-read.ensures.read.counts;
}

pub returns-clause-bytes : goal.returns-clause-bytes
returns-clause-bytes g c = λ text all known pages.
    c.u64_be_at-2.ensures
    ∙ stored_row all c.read.new.buf (groups_view c.args.self.now) c.args.index (length c.read.new.buf)
    (c.args.self.now.offset + 16 * c.args.index) c.requires c.read.auto.buf refl (c.in_ok-read.ensures.read.says text known all pages)
