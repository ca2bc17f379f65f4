use Rattle.std.proofs.Common.{◌∙◌, [], ◌||◌, take, get_or, subst, arith, sym, refl}
use Rattle.table_checked_pages.specs.Pages.{AreStored}
use Rattle.table_checked_pages.specs.Views.{claim_view}
use Rattle.table_checked_pages.proofs.ReadLemmas.{after_ok, passed_on}
use Rattle.index_format.specs.InnerPaged.{bytes_of, is_tagged_one, numbers_of}
use Rattle.index_format.proofs.ReadRuns.{walk_begins, walk_ends, walk_more, walk_seeks}
use Rattle.index_format.proofs.paged_entries.read_tagged.Goals as goal

pub uuids-init : goal.uuids-init
uuids-init g c = record {
  least = omega arith;
  most = c.requires.ordered;
  claim = refl;
  whole = refl;
  unfailed = refl;
  keeps = λ text all known pages. pages;
  numbers = c.requires.numbers;
  walked = λ text all entries passes known pages fill ascending sought are.
      walk_begins passes c.args.tag c.args.uuids.now entries c.args.from c.args.to sought
      (numbers_of c.args.read.now.items) (bytes_of c.args.read.now.items) are;
}

pub uuids-preserved : goal.uuids-preserved
uuids-preserved g c =
    let inv = c.uuids.invariant in
    let one = c.in_ok-next.ensures in
    let i = c.uuids.uuid-index in
    let uuid = get_or c.args.uuids.now i [] in
    let wide = c.told-uuids i c.uuids-test.true in
    record {
      least = omega (arith, inv.least, one.within.0);
      most = one.within.1;
      claim = one.claim ∙ inv.claim;
      whole = one.read.keeps ∙ inv.whole;
      unfailed = one.read.counts ∙ inv.unfailed;
      keeps = λ text all known pages. one.keeps text all (inv.whole ∙ known) (inv.keeps text all known pages);
      numbers = one.numbers;
      walked = λ text all entries passes known pages fill ascending sought are.
          let walk = inv.walked text all entries passes known pages fill ascending sought are in
          let seeks = walk_seeks passes c.args.tag c.args.uuids.now entries c.args.from c.args.to sought i c.uuids.next uuid
          (numbers_of c.uuids.read.items) (bytes_of c.uuids.read.items) c.uuids-test.true refl walk in
          let says = one.read.says text (inv.whole ∙ known) all entries (λ e. passes e || is_tagged_one c.args.tag (take i c.args.uuids.now) e)
          (inv.keeps text all known pages) fill ascending seeks walk.read in
          walk_more passes c.args.tag c.args.uuids.now entries c.args.from c.args.to sought i c.uuids.next says.0.0 c.in_ok-next.next uuid
          (numbers_of c.uuids.read.items) (numbers_of c.read_under.new.read.items) (bytes_of c.uuids.read.items) (bytes_of c.read_under.new.read.items)
          c.uuids-test.true refl wide c.requires.ascending fill.long (omega (arith, c.requires.within, fill.many)) walk says.0.1 says.1;
    }

pub returns-in_err-next-clause-read : goal.returns-in_err-next-clause-read
returns-in_err-next-clause-read g c =
    passed_on c.in_err-next.was c.from_residual.ensures.1
    (λ text known absent all stored pages held.
    absent all (subst (λ claim. AreStored text (claim_view claim) all) (sym c.uuids.invariant.claim) stored)
    (c.uuids.invariant.keeps text all known pages) held)
    (after_ok c.uuids.invariant.whole c.uuids.invariant.unfailed c.read_under.ensures.read)

pub returns-in_err-next-clause-keeps : goal.returns-in_err-next-clause-keeps
returns-in_err-next-clause-keeps g c = λ text all known pages.
    c.read_under.ensures.keeps text all (c.uuids.invariant.whole ∙ known) (c.uuids.invariant.keeps text all known pages)

pub returns-clause-read : goal.returns-clause-read
returns-clause-read g c = record {
  says = λ text known all entries passes pages fill ascending sought are.
      walk_ends passes c.args.tag c.args.uuids.now entries c.args.from c.args.to sought c.uuids.uuid-index c.uuids.next
      (numbers_of c.uuids.read.items) (bytes_of c.uuids.read.items) (omega (arith, c.uuids-test.false))
      (c.uuids.invariant.walked text all entries passes known pages fill ascending sought are);
  keeps = c.uuids.invariant.whole;
  counts = c.uuids.invariant.unfailed;
}
