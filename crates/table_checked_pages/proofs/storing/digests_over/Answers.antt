use Rattle.std.proofs.Common.{◌≡◌, ◌<◌, ◌∙◌, ◌++◌, List, ℕ, length, ap, sym, arith}
use Rattle.std.specs.Prelude.{IfOk, Result, Ok, Err}
use Rattle.table_checked_pages.specs.Pages.{page_digests, root_of, stored}
use Rattle.table_checked_pages.proofs.PageLemmas.{more_root, more_stored, one_root, one_stored}
use Rattle.table_checked_pages.proofs.storing.digests_over.Goals as goal

as_ok : {T E : Type 0} (r : Result T E) (P Q : T → Type 0) → ((value : T) → P value → Q value) → IfOk r P → IfOk r Q
as_ok (Ok value) P Q to h = to value h
as_ok (Err e) P Q to h = h

pub returns-then-bytes-le-PAGE_LEN-clause-stored : goal.returns-then-bytes-le-PAGE_LEN-clause-stored
returns-then-bytes-le-PAGE_LEN-clause-stored c =
    let all : List ℕ = c.args.bytes.now in
    ap (λ (b : List ℕ). b ++ all) c.new.ensures.items ∙ sym (one_stored all (omega arith))

pub returns-then-bytes-le-PAGE_LEN-clause-root : goal.returns-then-bytes-le-PAGE_LEN-clause-root
returns-then-bytes-le-PAGE_LEN-clause-root c = c.digest-root.ensures ∙ sym (one_root c.args.bytes.now (omega arith))

pub returns-clause-stored : goal.returns-clause-stored
returns-clause-stored c =
    let all : List ℕ = c.args.bytes.now in
    let large : 4096 < length all = omega arith in
    let digests : c.in_ok-page_digests.field-0.items ≡ page_digests all = c.in_ok-page_digests.ensures in
    as_ok c.store.result _ _
    (λ made is. ap (λ (b : List ℕ). b ++ all) (is ∙ ap (λ (b : List ℕ). stored b) digests) ∙ sym (more_stored all large))
    c.store.ensures.stored

pub returns-clause-root : goal.returns-clause-root
returns-clause-root c =
    let all : List ℕ = c.args.bytes.now in
    let large : 4096 < length all = omega arith in
    let digests : c.in_ok-page_digests.field-0.items ≡ page_digests all = c.in_ok-page_digests.ensures in
    as_ok c.store.result _ _
    (λ made is. is ∙ ap (λ (b : List ℕ). root_of b) digests ∙ sym (more_root all large))
    c.store.ensures.root
