use Rattle.std.proofs.Common.{length}
use Rattle.table_symbols.proofs.RowLemmas.{row_read}
use Rattle.table_symbols.proofs.search.row_at.Goals as goal

pub returns-clause-read : goal.returns-clause-read
returns-clause-read g c = record {
  says = λ text is all rows pages are stands within.
      row_read all c.read.new.buf rows c.args.first c.args.index (length c.read.new.buf) c.row_of.result c.row_of.result
      are stands within c.read.auto.buf (c.in_ok-read.ensures.read.says text is all pages) c.row_of.ensures;
  keeps = c.in_ok-read.ensures.read.keeps;
  counts = c.in_ok-read.ensures.read.counts;
}
