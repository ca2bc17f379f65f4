use Rattle.std.proofs.Common.{arith, subst, sym}
use Rattle.table_checked_pages.specs.Pages.{AreStored}
use Rattle.table_checked_pages.specs.Views.{claim_view}
use Rattle.table_checked_pages.proofs.ReadLemmas.{after_ok, passed_on}
use Rattle.table_symbols.proofs.RowLemmas.{above_edge, last_of_edge}
use Rattle.table_symbols.proofs.search.row_for.Goals as goal

pub returns-in_err-end-clause-read : goal.returns-in_err-end-clause-read
returns-in_err-end-clause-read g c =
    passed_on c.in_err-end.was c.from_residual.ensures.1
    (λ text known absent all stored pages held. absent all stored pages held)
    c.partition_point.ensures.read

pub returns-then-end-eq0-clause-read : goal.returns-then-end-eq0-clause-read
returns-then-end-eq0-clause-read g c = record {
  says = λ text known all rows pages are long stands.
      let edge = c.in_ok-end.ensures.read.says text known all rows pages (are, long, stands) in
      λ j d l. above_edge rows c.args.address c.in_ok-end.end are (λ m. edge.at (omega (arith, m, long))) j d (omega (arith, c.if-end-eq0.true)) l;
  keeps = c.in_ok-end.ensures.read.keeps;
  counts = c.in_ok-end.ensures.read.counts;
}

pub returns-in_err-row-clause-read : goal.returns-in_err-row-clause-read
returns-in_err-row-clause-read g c =
    let end = c.in_ok-end.ensures.read in
    passed_on c.in_err-row.was c.from_residual-in_err-row.ensures.1
    (λ text known absent all stored pages held.
    absent all (subst (λ claim. AreStored text (claim_view claim) all) (sym c.in_ok-end.ensures.claim) stored)
    (c.in_ok-end.ensures.keeps text all known pages) (omega (arith, held, c.in_ok-end.ensures.within.1, c.if-end-eq0.false)))
    (after_ok end.keeps end.counts c.row_at.ensures.read)

pub returns-clause-read : goal.returns-clause-read
returns-clause-read g c =
    let end = c.in_ok-end.ensures.read in
    let row = after_ok end.keeps end.counts c.in_ok-row.ensures.read in
    record {
      says = λ text known all rows pages are long stands.
          let edge = end.says text known all rows pages (are, long, stands) in
          let there = c.in_ok-end.ensures.within.1 in
          last_of_edge rows c.args.address c.in_ok-end.end c.in_ok-row.row are (omega (arith, c.if-end-eq0.false))
          (edge.before (omega (arith, c.if-end-eq0.false))) (λ m. edge.at (omega (arith, m, long)))
          (row.says text known all rows (c.in_ok-end.ensures.keeps text all known pages) are stands (omega (arith, c.if-end-eq0.false, there, long)));
      keeps = row.keeps;
      counts = row.counts;
    }
