use Rattle.std.proofs.Common.{◌≡◌, ◌<◌, ◌≤◌, ◌++◌, List, ℕ, [], length, take, sym, ap, ◌∙◌, arith}
use Rattle.std.proofs.lemmas.List.{take_all}
use Rattle.std.proofs.lemmas.Result.{IfOk-weaker}
use Rattle.sha2.specs.Sha256.{sha256}
use Rattle.table_checked_pages.specs.Pages.{page_digests, root_of, stored}
use Rattle.table_checked_pages.proofs.PageLemmas.{more_root, more_stored, one_root, one_stored}
use Rattle.table_symbols.proofs.making.TableText.above.Goals as goal

pub returns-then-size-le-PAGE_LEN-clause-stored : goal.returns-then-size-le-PAGE_LEN-clause-stored
returns-then-size-le-PAGE_LEN-clause-stored c =
    let all : List ℕ = c.args.self.now in
    ap (λ (b : List ℕ). b ++ all) c.new.ensures.items
    ∙ sym (one_stored all (omega (arith, c.size.ensures, c.if-size-le-PAGE_LEN.true)))

pub returns-then-size-le-PAGE_LEN-clause-root : goal.returns-then-size-le-PAGE_LEN-clause-root
returns-then-size-le-PAGE_LEN-clause-root c =
    let all : List ℕ = c.args.self.now in
    let small : length all ≤ 4096 = omega (arith, c.size.ensures, c.if-size-le-PAGE_LEN.true) in
    c.page_digest.ensures ∙ ap sha256 (take_all 4096 all small) ∙ sym (one_root all small)

pub returns-clause-stored : goal.returns-clause-stored
returns-clause-stored c =
    let all : List ℕ = c.args.self.now in
    let large : 4096 < length all = omega (arith, c.size.ensures, c.if-size-le-PAGE_LEN.false) in
    IfOk-weaker c.store.result _ _ (λ made is. ap (λ (b : List ℕ). b ++ all) (is ∙ ap (λ (b : List ℕ). stored b) c.in_ok-digests.ensures)
    ∙ sym (more_stored all large)) c.store.ensures.stored

pub returns-clause-root : goal.returns-clause-root
returns-clause-root c =
    let all : List ℕ = c.args.self.now in
    let large : 4096 < length all = omega (arith, c.size.ensures, c.if-size-le-PAGE_LEN.false) in
    IfOk-weaker c.store.result _ _ (λ made is. is ∙ ap (λ (b : List ℕ). root_of b) c.in_ok-digests.ensures ∙ sym (more_root all large))
    c.store.ensures.root
