use Rattle.index_format.proofs.PagedLemmas.{front_read}
use Rattle.index_format.proofs.paged_runs.begin_at.Goals as goal

pub returns-clause-read : goal.returns-clause-read
returns-clause-read g c = record {
  says = λ text known all entries count pages fill within.
      front_read c.read.new.buf all entries count c.args.place fill within c.read.auto.buf
      (c.in_ok-read.ensures.read.says text known all pages);
  keeps = c.in_ok-read.ensures.read.keeps;
  counts = c.in_ok-read.ensures.read.counts;
}
