use Rattle.std.proofs.Common.{ℕ, ◌-◌, ◌∙◌, ◌==◌, [], ap, arith}
use Rattle.table_checked_pages.proofs.ReadLemmas.{read_as}
use Rattle.index_format.proofs.ReadRuns.{at_tag}
use Rattle.index_format.proofs.paged_entries.begins_admissions.Goals as goal

pub returns-clause-read : goal.returns-clause-read
returns-clause-read g c =
    let other = c.if-retired-count.false in
    read_as
    (λ text known has says all entries pages fill tags.
    says all entries c.args.count pages fill (omega (arith, other, c.requires.within))
    ∙ ap (λ (tag : ℕ). tag == 2)
    ((at_tag [] entries c.args.retired tags c.args.retired (omega (arith, other, c.requires.within, fill.many))).1
    (omega arith)))
    (λ text known absent all stored pages long. absent all stored pages (omega (arith, other, c.requires.within, long)))
    c.has_tag_at.ensures.read
