use Rattle.index_format.proofs.PagedLemmas.{entry_read}
use Rattle.index_format.proofs.paged_entries.entry_at.Goals as goal

pub returns-clause-read : goal.returns-clause-read
returns-clause-read g c = record {
  says = λ text known all entries count pages fill within.
      entry_read c.read.new.buf all entries count c.args.number fill within c.read.auto.buf
      (c.in_ok-read.ensures.read.says text known all pages);
  keeps = c.in_ok-read.ensures.read.keeps;
  counts = c.in_ok-read.ensures.read.counts;
}
