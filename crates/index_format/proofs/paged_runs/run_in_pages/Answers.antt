use Rattle.table_checked_pages.proofs.ReadLemmas.{after_ok}
use Rattle.index_format.proofs.PagedLemmas.{run_between}
use Rattle.index_format.proofs.paged_runs.run_in_pages.Goals as goal

pub returns-clause-read : goal.returns-clause-read
returns-clause-read g c =
    let start = c.in_ok-start.ensures.read in
    let stop = after_ok start.keeps start.counts c.in_ok-stop.ensures.read in
    record {
      says = λ text known all entries pages fill ascending.
          run_between c.args.tag c.args.uuid.now c.beginning-begin.result all entries c.args.count c.args.from c.args.to
          c.in_ok-start.start c.in_ok-stop.stop c.beginning-begin.ensures fill ascending c.requires.ordered
          c.requires.within
          (start.says text known all entries pages fill)
          (stop.says text known all entries (c.in_ok-start.ensures.keeps text all known pages) fill);
      keeps = stop.keeps;
      counts = stop.counts;
    }
