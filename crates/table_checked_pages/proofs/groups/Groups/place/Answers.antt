use Rattle.std.proofs.Common.{◌+◌, ◌-◌, take, drop, ap, sym, subst, ◌∙◌, arith}
use Rattle.table_checked_pages.specs.Groups.{IsBytesOf}
use Rattle.table_checked_pages.specs.GroupViews.{groups_view}
use Rattle.table_checked_pages.specs.Pages.{AreStored}
use Rattle.table_checked_pages.specs.Views.{claim_view}
use Rattle.table_checked_pages.proofs.ReadLemmas.{after_ok, passed_on}
use Rattle.table_checked_pages.proofs.GroupLemmas.{bytes_are, few_bytes, stored_there}
use Rattle.table_checked_pages.proofs.groups.Groups.place.Goals as goal
use Rattle.table_checked_pages.proofs.groups.Groups.place.Goals.{then-begin-end-via-then-begin-end, then-begin-end-via-else-begin-end+then-end-self}
use Rattle.table_checked_pages.proofs.groups.Groups.place.Goals.{then-begin-end-via-else-begin-end+else-end-self+then-end-begin}

pub returns-in_err-begin-clause-read : goal.returns-in_err-begin-clause-read
returns-in_err-begin-clause-read g c =
    passed_on c.in_err-begin.was c.from_residual.ensures.1
    (λ text known absent all stored pages held. absent all stored pages held)
    c.bytes_before.ensures.read

pub returns-in_err-end-clause-read : goal.returns-in_err-end-clause-read
returns-in_err-end-clause-read g c =
    let begin = c.in_ok-begin.ensures.read in
    passed_on c.in_err-end.was c.from_residual-in_err-end.ensures.1
    (λ text known absent all stored pages held.
    absent all (subst (λ claim. AreStored text (claim_view claim) all) (sym c.in_ok-begin.ensures.claim) stored)
    (c.in_ok-begin.ensures.keeps text all known pages) held)
    (after_ok begin.keeps begin.counts c.bytes_before-2.ensures.read)

pub returns-clause-read : goal.returns-clause-read
returns-clause-read g c =
    let begin = c.in_ok-begin.ensures.read in
    let end = after_ok begin.keeps begin.counts c.in_ok-end.ensures.read in
    record {
      says = λ text known all groups pages are.
          subst (λ o. IsBytesOf all groups c.args.index (o + c.in_ok-begin.begin) (c.in_ok-end.end - c.in_ok-begin.begin))
          (sym c.bytes_offset.ensures)
          (bytes_are all (groups_view c.args.self.now) groups are c.args.index c.in_ok-begin.begin c.in_ok-end.end c.requires
          (begin.says text known all groups pages are)
          (end.says text known all groups (c.in_ok-begin.ensures.keeps text all known pages) are));
      keeps = end.keeps;
      counts = end.counts;
    }

pub returns-clause-bytes : goal.returns-clause-bytes
returns-clause-bytes g c = λ text all known pages.
    ap (λ o. take (c.in_ok-end.end - c.in_ok-begin.begin) (drop (o + c.in_ok-begin.begin) all)) c.bytes_offset.ensures
    ∙ stored_there all (groups_view c.args.self.now) c.args.index c.in_ok-begin.begin c.in_ok-end.end
    (c.in_ok-begin.ensures.bytes text all known pages)
    (c.in_ok-end.ensures.bytes text all (c.in_ok-begin.ensures.read.keeps ∙ known) (c.in_ok-begin.ensures.keeps text all known pages))

pub returns-then-begin-end-clause-read : goal.returns-then-begin-end-clause-read
returns-then-begin-end-clause-read g c =
    let begin = c.in_ok-begin.ensures.read in
    let end = after_ok begin.keeps begin.counts c.in_ok-end.ensures.read in
    record {
      says = λ text known all stored pages held.
          let few = few_bytes all (groups_view c.args.self.now) held.0 held.1 c.args.index c.in_ok-begin.begin c.in_ok-end.end
          c.requires (begin.says text known all held.0 pages held.1)
          (end.says text known all held.0 (c.in_ok-begin.ensures.keeps text all known pages) held.1) in
          elim c.then-begin-end.branch [
            | then-begin-end-via-then-begin-end w ↦ omega (arith, few.0, w.if-begin-end.true)
            | then-begin-end-via-else-begin-end+then-end-self w ↦ omega (arith, few.1, w.if-end-self.true)
            | then-begin-end-via-else-begin-end+else-end-self+then-end-begin w ↦ omega (arith, few.2, w.if-end-begin.true)
          ];
      keeps = end.keeps;
      counts = end.counts;
    }
