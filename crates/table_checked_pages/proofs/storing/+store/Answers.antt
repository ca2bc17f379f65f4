use Rattle.std.proofs.Common.{◌≡◌, ◌<◌, ◌*◌, ◌++◌, ℕ, List, length, sym, ap, ◌∙◌, arith}
use Rattle.sha2.specs.Sha256.{sha256}
use Rattle.table_checked_pages.specs.Pages.{page_digests, pages_in, root_of, stored}
use Rattle.table_checked_pages.proofs.PageLemmas.{length-digests, more_root, more_stored, one_root, one_stored}
use Rattle.table_checked_pages.proofs.storing.+store.Goals as goal

pub returns-then-len-le-PAGE_LEN-clause-stored : goal.returns-then-len-le-PAGE_LEN-clause-stored
returns-then-len-le-PAGE_LEN-clause-stored t c =
    sym (one_stored c.args.bytes.items (omega (arith, c.len.ensures, c.if-len-le-PAGE_LEN.true)))

pub returns-then-len-le-PAGE_LEN-clause-root : goal.returns-then-len-le-PAGE_LEN-clause-root
returns-then-len-le-PAGE_LEN-clause-root t c =
    c.digest-root.ensures ∙ ap sha256 c.deref.ensures.value
    ∙ sym (one_root c.args.bytes.items (omega (arith, c.len.ensures, c.if-len-le-PAGE_LEN.true)))

pub store-requires : goal.store-requires
store-requires t c =
    let large : 4096 < length c.args.bytes.items = omega (arith, c.len.ensures, c.if-len-le-PAGE_LEN.false) in
    let long : length c.in_ok-digests.digests.items ≡ 32 * pages_in (length c.args.bytes.items) =
    ap length (c.in_ok-digests.ensures ∙ ap (λ (b : List ℕ). page_digests b) c.deref-2.ensures.value)
    ∙ length-digests (pages_in (length c.args.bytes.items)) 0 c.args.bytes.items in
    (omega (arith, c.decreases, large, long), tt)

pub returns-clause-stored : goal.returns-clause-stored
returns-clause-stored t c =
    let all : List ℕ = c.args.bytes.items in
    let large : 4096 < length all = omega (arith, c.len.ensures, c.if-len-le-PAGE_LEN.false) in
    let digests : c.in_ok-digests.digests.items ≡ page_digests all =
    c.in_ok-digests.ensures ∙ ap (λ (b : List ℕ). page_digests b) c.deref-2.ensures.value in
    let above : c.in_ok-above.above.bytes.items ≡ stored (page_digests all) =
    c.in_ok-above.ensures.stored ∙ ap (λ (b : List ℕ). stored b) digests in
    c.in_ok-extend_from_slice.ensures.items ∙ (λ i. above i ++ c.deref-3.ensures.value i) ∙ sym (more_stored all large)

pub returns-clause-root : goal.returns-clause-root
returns-clause-root t c =
    let all : List ℕ = c.args.bytes.items in
    let large : 4096 < length all = omega (arith, c.len.ensures, c.if-len-le-PAGE_LEN.false) in
    let digests : c.in_ok-digests.digests.items ≡ page_digests all =
    c.in_ok-digests.ensures ∙ ap (λ (b : List ℕ). page_digests b) c.deref-2.ensures.value in
    c.in_ok-above.ensures.root ∙ ap (λ (b : List ℕ). root_of b) digests ∙ sym (more_root all large)
