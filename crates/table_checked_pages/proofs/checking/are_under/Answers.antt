use Rattle.std.proofs.Common.{◌≡◌, ◌∙◌, ◌++◌, List, ℕ, ap, sym}
use Rattle.table_checked_pages.specs.Pages.{root_of, stored}
use Rattle.table_checked_pages.proofs.PageLemmas.{same_before}
use Rattle.table_checked_pages.proofs.checking.are_under.Goals as goal

pub returns-then-not-are_same-clause-changed : goal.returns-then-not-are_same-clause-changed
returns-then-not-are_same-clause-changed c = λ is whole root.
    let bytes : List ℕ = c.args.bytes.items in
    let over : c.in-Ok.over.bytes.items ++ bytes ≡ stored bytes =
    ap (λ (b : List ℕ). c.in-Ok.over.bytes.items ++ b) (sym c.deref.ensures.value) ∙ c.in-Ok.ensures.stored
    ∙ ap (λ (b : List ℕ). stored b) c.deref.ensures.value in
    cc (c.if-not-are_same.ensures.1
    (c.deref-2.ensures.value ∙ same_before c.in-Ok.over.bytes.items c.args.digests.now bytes (over ∙ whole)))

pub returns-then-not-are_same-2-clause-changed : goal.returns-then-not-are_same-2-clause-changed
returns-then-not-are_same-2-clause-changed c = λ is whole root.
    cc (c.if-not-are_same-2.ensures.1
    (c.in-Ok.ensures.root ∙ ap (λ (b : List ℕ). root_of b) c.deref.ensures.value ∙ root))
