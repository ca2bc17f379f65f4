use Rattle.std.proofs.Common.{ℕ, ◌≡◌, ◌+◌, ◌-◌, ◌/◌, ◌<◌, refl, sym, subst, ◌∙◌, arith}
use Rattle.table_checked_pages.specs.Pages.{AreStored}
use Rattle.table_checked_pages.specs.Views.{claim_view}
use Rattle.table_checked_pages.proofs.ReadLemmas.{after_ok, passed_on}
use Rattle.table_checked_pages.proofs.halving.partition_point.Goals as goal

pub halving-init : goal.halving-init
halving-init g c = record {
  least = omega arith;
  few = c.requires.from;
  most = omega arith;
  within = λ l. l;
  claim = refl;
  whole = refl;
  unfailed = refl;
  keeps = λ text all known pages. pages;
  before = λ text all rows known pages stand l. absurd (omega (arith, l));
  at = λ text all rows known pages stand l. absurd (omega (arith, l));
}

pub returns-in_err-below-clause-read : goal.returns-in_err-below-clause-read
returns-in_err-below-clause-read g c =
    passed_on c.in_err-below.was c.from_residual.ensures.1
    (λ text known absent all stored pages held.
    absent all (subst (λ claim. AreStored text (claim_view claim) all) (sym c.halving.invariant.claim) stored)
    (c.halving.invariant.keeps text all known pages) held)
    (after_ok c.halving.invariant.whole c.halving.invariant.unfailed c.is_below.ensures.read)

pub returns-in_err-below-clause-keeps : goal.returns-in_err-below-clause-keeps
returns-in_err-below-clause-keeps g c = λ text all known pages.
    c.is_below.ensures.keeps text all (c.halving.invariant.whole ∙ known) (c.halving.invariant.keeps text all known pages)

pub halving-preserved-then-below : goal.halving-preserved-then-below
halving-preserved-then-below g c =
    let middle : ℕ = c.halving.low + (c.halving.high - c.halving.low) / 2 in
    let inside : middle < c.halving.high = omega (arith, c.halving-test.true) in
    record {
      least = omega (arith, c.halving.invariant.least);
      few = omega (arith, inside, c.halving.invariant.most, c.requires.to);
      most = c.halving.invariant.most;
      within = λ l. omega (arith, inside);
      claim = c.in_ok-below.ensures.claim ∙ c.halving.invariant.claim;
      whole = c.in_ok-below.ensures.read.keeps ∙ c.halving.invariant.whole;
      unfailed = c.in_ok-below.ensures.read.counts ∙ c.halving.invariant.unfailed;
      keeps = λ text all known pages. c.in_ok-below.ensures.keeps text all (c.halving.invariant.whole ∙ known) (c.halving.invariant.keeps text all known pages);
      before = λ text all rows known pages stand l.
          let says = c.in_ok-below.ensures.read.says text (c.halving.invariant.whole ∙ known) all rows (c.halving.invariant.keeps text all known pages) stand in
          let last : middle + 1 - 1 ≡ middle = omega arith in
          subst (g.S.Sought.is_below c.args.sought.now rows) (sym last) (says.0 c.if-below.true);
      at = c.halving.invariant.at;
    }

pub halving-preserved : goal.halving-preserved
halving-preserved g c =
    let middle : ℕ = c.halving.low + (c.halving.high - c.halving.low) / 2 in
    let inside : middle < c.halving.high = omega (arith, c.halving-test.true) in
    record {
      least = c.halving.invariant.least;
      few = c.halving.invariant.few;
      most = omega (arith, inside, c.halving.invariant.most);
      within = λ l. omega arith;
      claim = c.in_ok-below.ensures.claim ∙ c.halving.invariant.claim;
      whole = c.in_ok-below.ensures.read.keeps ∙ c.halving.invariant.whole;
      unfailed = c.in_ok-below.ensures.read.counts ∙ c.halving.invariant.unfailed;
      keeps = λ text all known pages. c.in_ok-below.ensures.keeps text all (c.halving.invariant.whole ∙ known) (c.halving.invariant.keeps text all known pages);
      before = c.halving.invariant.before;
      at = λ text all rows known pages stand l below.
          let says = c.in_ok-below.ensures.read.says text (c.halving.invariant.whole ∙ known) all rows (c.halving.invariant.keeps text all known pages) stand in
          cc (says.1 below, c.if-below.false);
    }

pub returns-clause-read : goal.returns-clause-read
returns-clause-read g c = record {
  says = λ text known all rows pages stand. record {
    least = c.halving.invariant.least;
    most = λ l. omega (arith, c.halving.invariant.within l, c.halving.invariant.most);
    before = c.halving.invariant.before text all rows known pages stand;
    at = λ l below.
        let same : c.halving.low ≡ c.halving.high = omega (arith, l, c.halving-test.false, c.halving.invariant.within, c.halving.invariant.least) in
        c.halving.invariant.at text all rows known pages stand (omega (arith, l, same)) (subst (g.S.Sought.is_below c.args.sought.now rows) same below);
  };
  keeps = c.halving.invariant.whole;
  counts = c.halving.invariant.unfailed;
}
