use Rattle.std.proofs.Common.{◌≡◌, ℕ, ◌+◌, ◌*◌, ◌/◌, ◌%◌, length, take, drop, sym, subst, ap, ◌∙◌, arith}
use Rattle.std.proofs.lemmas.Slice.{take-put_mid}
use Rattle.std.proofs.lemmas.List.{take_all}
use Rattle.table_checked_pages.specs.Pages.{AreStored}
use Rattle.table_checked_pages.specs.Views.{claim_view}
use Rattle.table_checked_pages.proofs.PageLemmas.{more_came}
use Rattle.table_checked_pages.proofs.ReadLemmas.{after_ok, passed_on}
use Rattle.table_checked_pages.proofs.pages.Pages.read.Goals as goal

pub pages-preserved : goal.pages-preserved
pages-preserved g c =
    let n : ℕ = c.min-n.result in
    let size = ap (λ claim. claim.size) c.pages.invariant.claim in
    record {
      within = omega (arith, c.pages.invariant.within, c.min-n.ensures);
      inside = λ some. omega (arith, c.min-n.ensures, c.page_len.ensures, c.if-place-self.false, c.in-Some.ensures, size);
      claim = c.in_ok-part.ensures.claim ∙ c.pages.invariant.claim;
      whole = c.in_ok-part.ensures.read.keeps ∙ c.pages.invariant.whole;
      unfailed = c.in_ok-part.ensures.read.counts ∙ c.pages.invariant.unfailed;
      keeps = λ text all is are. c.in_ok-part.ensures.keeps text all (c.pages.invariant.whole ∙ is) (c.pages.invariant.keeps text all is are);
      came = λ text all is are.
          let place : ℕ = c.in-Some.place in
          let long : length c.part.new.buf ≡ n = omega (arith, c.part.auto.buf) in
          let there : 4096 * (place / 4096) + place % 4096 ≡ place = omega arith in
          let part : c.part.new.buf ≡ take n (drop place all) =
          c.in_ok-part.ensures.read.says text (c.pages.invariant.whole ∙ is) all (c.pages.invariant.keeps text all is are)
          ∙ ap (λ k. take k (drop (4096 * (place / 4096) + place % 4096) all)) long ∙ ap (λ k. take n (drop k all)) there in
          take-put_mid c.pages.done _ c.pages.buf c.part.new.buf (c.pages.done + n) (omega (arith, long)) (omega (arith, c.pages-test.true))
          ∙ more_came all (take c.pages.done c.pages.buf) c.part.new.buf c.args.offset place c.pages.done n
          c.in-Some.ensures.1 (c.pages.invariant.came text all is are) part;
    }

pub returns-in_err-part-clause-keeps : goal.returns-in_err-part-clause-keeps
returns-in_err-part-clause-keeps g c = λ text all is are.
    c.part.ensures.keeps text all (c.pages.invariant.whole ∙ is) (c.pages.invariant.keeps text all is are)

pub returns-in_err-part-clause-read : goal.returns-in_err-part-clause-read
returns-in_err-part-clause-read g c =
    passed_on c.in_err-part.was c.from_residual.ensures.1
    (λ text known absent all stored are inside.
    absent all (subst (λ claim. AreStored text (claim_view claim) all) (sym c.pages.invariant.claim) stored)
    (c.pages.invariant.keeps text all known are))
    (after_ok c.pages.invariant.whole c.pages.invariant.unfailed c.part.ensures.read)

pub returns-clause-read : goal.returns-clause-read
returns-clause-read g c = record {
  says = λ text is all are.
      let done : c.pages.done ≡ length c.pages.buf = omega (arith, c.pages.auto.buf, c.pages-test.false, c.pages.invariant.within) in
      sym (take_all c.pages.done c.pages.buf (omega (arith, done))) ∙ c.pages.invariant.came text all is are ∙ ap (λ k. take k (drop c.args.offset all)) done;
  keeps = c.pages.invariant.whole;
  counts = c.pages.invariant.unfailed;
}
