use Rattle.std.proofs.Common.{arith}
use Rattle.table_checked_pages.proofs.ReadLemmas.{after_ok}
use Rattle.index_format.proofs.PagedLemmas.{edge_far, edge_near}
use Rattle.index_format.proofs.paged_runs.stop_from.Goals as goal

pub returns-then-stop-near-clause-read : goal.returns-then-stop-near-clause-read
returns-then-stop-near-clause-read g c =
    let near = c.in_ok-stop.ensures.read in
    record {
      says = λ text known all entries pages fill. edge_near _ c.args.start _ c.args.to c.in_ok-stop.stop (omega (arith, c.requires.ordered))
          c.if-stop-near.true (near.says text known all entries pages fill);
      keeps = near.keeps;
      counts = near.counts;
    }

pub returns-clause-read : goal.returns-clause-read
returns-clause-read g c =
    let near = c.in_ok-stop.ensures.read in
    let far = after_ok near.keeps near.counts c.in_ok-last.ensures.read in
    record {
      says = λ text known all entries pages fill. edge_far _ c.args.start _ c.args.to c.in_ok-stop.stop c.in_ok-last.last
          (omega arith) (omega (arith, c.requires.ordered)) (omega (arith, c.if-stop-near.false)) (near.says text known all entries pages fill)
          (far.says text known all entries (c.in_ok-stop.ensures.keeps text all known pages) fill);
      keeps = far.keeps;
      counts = far.counts;
    }
