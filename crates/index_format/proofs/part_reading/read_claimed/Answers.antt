use Rattle.std.proofs.Common.{◌≡◌, ◌∙◌, Bool, true, false, refl, arith, sym, subst}
use Rattle.std.specs.List.{concat}
use Rattle.table_checked_pages.specs.Pages.{AreStored}
use Rattle.table_checked_pages.specs.Views.{claim_view}
use Rattle.table_checked_pages.proofs.PageLemmas.{may_be}
use Rattle.table_checked_pages.proofs.ReadLemmas.{after_ok, passed_on, unread}
use Rattle.index_format.proofs.part_reading.read_claimed.Goals as goal

pub returns-in_err-pages-clause-read : goal.returns-in_err-pages-clause-read
returns-in_err-pages-clause-read g c =
    unread g.P.Placed.whole g.P.Placed.failures c.args.device.now _ _ _ _ c.from_residual.ensures.1 c.in_err-pages.ensures.fault
    (λ text known. c.in_err-pages.ensures.absent text)

pub returns-in_err-are_parted-clause-read : goal.returns-in_err-are_parted-clause-read
returns-in_err-are_parted-clause-read g c =
    let opened = c.in_ok-pages.ensures in
    passed_on c.in_err-are_parted.was c.from_residual-in_err-are_parted.ensures.1
    (λ text known absent short all stored.
    absent all (subst (λ claim. AreStored text (claim_view claim) all) (sym opened.claim) stored)
    (opened.opened text all (may_be text all (claim_view c.args.claim) stored)) (omega (arith, stored.size, c.requires.size)))
    c.are_parted.ensures.read

pub returns-in_err-read-clause-read : goal.returns-in_err-read-clause-read
returns-in_err-read-clause-read g c =
    let opened = c.in_ok-pages.ensures in
    let parted = c.in_ok-are_parted.ensures in
    passed_on c.in_err-read.was c.from_residual-in_err-read.ensures.1
    (λ text known absent short all stored.
    absent all (subst (λ claim. AreStored text (claim_view claim) all) (sym (parted.claim ∙ opened.claim)) stored)
    (parted.keeps text all known (opened.opened text all (may_be text all (claim_view c.args.claim) stored)))
    (omega (arith, stored.size, c.requires.size)))
    (after_ok parted.read.keeps parted.read.counts c.read_paged.ensures.read)

pub returns-clause-read : goal.returns-clause-read
returns-clause-read g c =
    let opened = c.in_ok-pages.ensures in
    let parted = c.in_ok-are_parted.ensures in
    let second = after_ok parted.read.keeps parted.read.counts c.in_ok-read.ensures.read in
    record {
      says = λ text known entries may many long tags.
          second.says text known (concat entries) entries
          (parted.keeps text (concat entries) known (opened.opened text (concat entries) may))
          (record { whole = refl; many = many; long = long }) tags;
      keeps = second.keeps;
      counts = second.counts;
    }

-- it is not parted, and it is
not_parted : (parted : Bool) → parted ≡ false → parted ≡ true → ⊥
not_parted parted no_part part = cc

pub returns-then-not-branch-clause-read : goal.returns-then-not-branch-clause-read
returns-then-not-branch-clause-read g c =
    let opened = c.in_ok-pages.ensures in
    let parted = c.in_ok-are_parted.ensures in
    record {
      says = λ text known entries may many long tags.
          not_parted c.in_ok-are_parted.field-0 c.if-not-branch.true
          (parted.read.says text known (concat entries) entries (opened.opened text (concat entries) may)
          (record { whole = refl; many = many; long = long }) tags);
      keeps = parted.read.keeps;
      counts = parted.read.counts;
    }
