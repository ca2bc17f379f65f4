use Rattle.std.proofs.Common.{◌≡◌, Option, None, Some, ℕ, sym, ap, subst, ◌∙◌}
use Rattle.std.specs.Prelude.{MatchOption}
use Rattle.macho_symbols.specs.Found.{FindsNearest}
use Rattle.table_checked_pages.proofs.ReadLemmas.{read_as}
use Rattle.archive_core.specs.Lookup.{address_by, file_address}
use Rattle.index_lookup.specs.Views.{told_view}
use Rattle.index_lookup.proofs.own.own_of.Goals as goal

pub returns-in-Some-clause-read : goal.returns-in-Some-clause-read
returns-in-Some-clause-read g c =
    read_as
    (λ text known own says slice t bytes is opened.
    let at : file_address slice c.args.asked ≡ Some c.in-Some.address =
    ap (λ (b : Option ℕ). address_by b c.args.asked) (sym (c.text_base.ensures ∙ opened.head.base ∙ is.base))
    ∙ sym c.address_by.ensures ∙ c.in-Some.is in
    subst (λ (o : Option ℕ). MatchOption o (told_view own ≡ None)
    (λ address. FindsNearest slice address (told_view own))) (sym at) (says slice t bytes is opened))
    (λ text known absent t opened stored. absent t opened stored)
    c.found.ensures.read
