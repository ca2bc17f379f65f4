use Rattle.std.proofs.Common.{◌≡◌, ◌+◌, ◌∙◌, List, ℕ, ap, arith, drop, length, refl, subst, sym, take}
use Rattle.table_checked_pages.specs.Pages.{AreStored, digests_size}
use Rattle.table_checked_pages.specs.Views.{claim_view}
use Rattle.table_checked_pages.proofs.PageLemmas.{all_refused, all_stored, lies_within}
use Rattle.table_checked_pages.proofs.ReadLemmas.{after_ok, compared, passed_on}
use Rattle.table_checked_pages.proofs.checking.read_all.Goals as goal

pub returns-in_default-clause-read : goal.returns-in_default-clause-read
returns-in_default-clause-read g c = record {
  says = λ text known fits all are.
      c.in_default.ensures (omega (arith, fits, c.digests_len-len.ensures.is, lies_within text all (claim_view c.args.claim) are));
  keeps = refl;
  counts = refl;
}

pub returns-in_default-checked_add-clause-read : goal.returns-in_default-checked_add-clause-read
returns-in_default-checked_add-clause-read g c = record {
  says = λ text known fits all are.
      let first = c.in-Some.ensures.1 in
      c.in_default-checked_add.ensures
      (omega (arith, fits, first, c.digests_len-len.ensures.is, lies_within text all (claim_view c.args.claim) are));
  keeps = refl;
  counts = refl;
}

pub returns-in_err-digests-clause-read : goal.returns-in_err-digests-clause-read
returns-in_err-digests-clause-read g c =
    passed_on c.in_err-digests.was c.from_residual.ensures.1
    (λ text known absent fits all are.
    absent (omega (arith, c.digests_len-len.ensures.is, lies_within text all (claim_view c.args.claim) are)))
    c.read_part.ensures.read

pub returns-in_err-bytes-clause-read : goal.returns-in_err-bytes-clause-read
returns-in_err-bytes-clause-read g c =
    let read = c.in_ok-digests.ensures.read in
    passed_on c.in_err-bytes.was c.from_residual-in_err-bytes.ensures.1
    (λ text known absent fits all are.
    let first = c.in-Some.ensures.1 in
    absent (omega (arith, first, c.digests_len-len.ensures.is, lies_within text all (claim_view c.args.claim) are)))
    (after_ok read.keeps read.counts c.read_part-2.ensures.read)

pub returns-clause-read : goal.returns-clause-read
returns-clause-read g c =
    let claim = claim_view c.args.claim in
    let read = c.in_ok-digests.ensures.read in
    let more = after_ok read.keeps read.counts c.in_ok-bytes.ensures.read in
    let digests : List ℕ = c.deref.result.now in
    let bytes : List ℕ = c.in_ok-bytes.bytes.items in
    let len : c.digests_len-len.result ≡ digests_size claim.size = c.digests_len-len.ensures.is in
    let first : c.in-Some.first ≡ claim.offset + digests_size claim.size = c.in-Some.ensures.1 ∙ ap (λ n. claim.offset + n) len in
    compared _ _ _ _ c.are_under.result _ _ _ _ more.keeps more.counts
    (λ text known value is inside. subst (AreStored text claim) (sym is.0)
    (all_stored text digests bytes claim (ap length c.deref.ensures.value ∙ c.in_ok-digests.ensures.long ∙ len) c.in_ok-bytes.ensures.long
    (c.deref.ensures.value ∙ read.says text known ∙ ap (λ n. take n (drop claim.offset text)) len)
    (more.says text known ∙ ap (λ n. take claim.size (drop n text)) first) is.1 is.2 inside))
    (λ text known fault is changed fits all are. all_refused text digests bytes all claim
    (c.deref.ensures.value ∙ read.says text known ∙ ap (λ n. take n (drop claim.offset text)) len)
    (more.says text known ∙ ap (λ n. take claim.size (drop n text)) first) are (is changed))
    c.are_under.ensures.same c.are_under.ensures.changed c.are_under.ensures.device
