use Rattle.std.proofs.Common.{ℕ, ◌-◌, ◌∙◌, ◌==◌, [], ap, arith}
use Rattle.table_checked_pages.proofs.ReadLemmas.{read_as}
use Rattle.index_format.proofs.ReadRuns.{at_tag}
use Rattle.index_format.proofs.paged_entries.ends_retirements.Goals as goal

pub returns-clause-read : goal.returns-clause-read
returns-clause-read g c =
    let some = c.if-retired-eq0.false in
    read_as
    (λ text known has says all entries pages fill tags.
    says all entries c.args.count pages fill (omega (arith, some, c.requires.within))
    ∙ ap (λ (tag : ℕ). tag == 1)
    ((at_tag [] entries c.args.retired tags (c.args.retired - 1) (omega (arith, some, c.requires.within, fill.many))).0
    (omega (arith, some))))
    (λ text known absent all stored pages long. absent all stored pages (omega (arith, some, c.requires.within, long)))
    c.has_tag_at.ensures.read
