use Rattle.std.proofs.Common.{length, arith}
use Rattle.table_checked_pages.proofs.ReadLemmas.{passed_on}
use Rattle.table_source_frames.proofs.OpenedLemmas.{opened_long, text_row_read}
use Rattle.table_source_frames.proofs.ByteLemmas.{text_in}
use Rattle.table_source_frames.proofs.table.LineTable.text_row.Goals as goal

pub returns-in_err-read-clause-read : goal.returns-in_err-read-clause-read
returns-in_err-read-clause-read g c =
    passed_on c.in_err-read.was c.from_residual.ensures.1
    (λ text known absent all strings steps stored opened. absent all stored opened.are_pages
    (omega (arith, opened_long _ _ _ _ _ _ opened, c.requires, c.first_text.ensures, c.read.auto.buf)))
    c.read.ensures.read

pub returns-clause-read : goal.returns-clause-read
returns-clause-read g c = record {
  says = λ text known all strings steps opened.
      text_row_read _ _ _ _ _ _ opened c.read.new.buf c.args.index (length c.read.new.buf) _ _ c.requires c.read.auto.buf (omega (arith, c.first_text.ensures))
      (c.in_ok-read.ensures.read.says text known all opened.are_pages) c.u32_be_at.ensures c.u32_be_at-2.ensures;
  keeps = c.in_ok-read.ensures.read.keeps;
  counts = c.in_ok-read.ensures.read.counts;
}

pub returns-clause-bytes : goal.returns-clause-bytes
returns-clause-bytes g c = λ text all known pages.
    text_in c.args.self.now all c.read.new.buf c.args.index (length c.read.new.buf) _ _ c.read.auto.buf
    (omega (arith, c.first_text.ensures)) (c.in_ok-read.ensures.read.says text known all pages) c.u32_be_at.ensures
    c.u32_be_at-2.ensures
