use Rattle.index_format.proofs.PagedLemmas.{up_decides}
use Rattle.index_format.proofs.paged_runs.BeginsUpToSought.is_below.Goals as goal

pub returns-clause-read : goal.returns-clause-read
returns-clause-read g c = record {
  says = λ text known all rows pages fill.
      up_decides c.is_up_to.result c.args.self.now.with c.cmp.result c.in_ok-begin.begin _ c.args.self.now.begin
      c.is_up_to.ensures c.cmp.ensures
      (c.in_ok-begin.ensures.read.says text known all rows c.args.self.now.count pages fill c.requires);
  keeps = c.in_ok-begin.ensures.read.keeps;
  counts = c.in_ok-begin.ensures.read.counts;
}
