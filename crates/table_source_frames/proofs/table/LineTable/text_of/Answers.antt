use Rattle.std.proofs.Common.{length, Some, refl, ap, sym, ◌∙◌, arith}
use Rattle.table_checked_pages.proofs.ReadLemmas.{passed_on}
use Rattle.std.proofs.lemmas.List.{take_at}
use Rattle.table_source_frames.proofs.OpenedLemmas.{opened_long, text_ends, text_read}
use Rattle.table_source_frames.proofs.ByteLemmas.{bytes_in}
use Rattle.table_source_frames.proofs.table.LineTable.text_of.Goals as goal

pub returns-then-end-self-clause-read : goal.returns-then-end-self-clause-read
returns-then-end-self-clause-read g c = record {
  says = λ text known all strings steps index stored opened within is.
      omega (arith, text_ends _ _ _ _ _ _ opened index c.args.row within is, c.if-end-self.true, c.from.ensures, c.from-2.ensures);
  keeps = refl;
  counts = refl;
}

pub returns-in_err-read-clause-read : goal.returns-in_err-read-clause-read
returns-in_err-read-clause-read g c =
    passed_on c.in_err-read.was c.from_residual-in_err-read.ensures.1
    (λ text known absent all strings steps index stored opened within is.
    absent all stored opened.are_pages
    (omega (
      arith,
      opened_long _ _ _ _ _ _ opened,
      text_ends _ _ _ _ _ _ opened index c.args.row within is,
      c.texts_offset.ensures,
      c.read.auto.buf,
      c.in_ok-bytes.ensures.long,
      c.from-3.ensures,
    )))
    c.read.ensures.read

pub returns-clause-read : goal.returns-clause-read
returns-clause-read g c = record {
  says = λ text known all strings steps index opened within is.
      let long = ap length c.deref_mut.ensures.value in
      text_read _ _ _ _ _ _ opened c.read.new.buf index (length c.read.new.buf) _ c.args.row within is
      (omega (arith, c.read.auto.buf, long, c.in_ok-bytes.ensures.long))
      (omega (arith, c.texts_offset.ensures, c.from-3.ensures)) (c.in_ok-read.ensures.read.says text known all opened.are_pages)
      ∙ ap Some (sym (take_at c.read.new.buf _ c.in_ok-bytes.bytes.len (omega (arith, c.read.auto.buf, long, c.in_ok-bytes.bytes.ok.0))));
  keeps = c.in_ok-read.ensures.read.keeps;
  counts = c.in_ok-read.ensures.read.counts;
}

pub returns-clause-bytes : goal.returns-clause-bytes
returns-clause-bytes g c = λ text all known pages.
    let long = ap length c.deref_mut.ensures.value in
    bytes_in all c.read.new.buf _ c.args.row.length _ _
    (take_at c.read.new.buf _ c.in_ok-bytes.bytes.len (omega (arith, c.read.auto.buf, long, c.in_ok-bytes.bytes.ok.0)))
    (c.in_ok-read.ensures.read.says text known all pages)
    (omega (arith, c.read.auto.buf, long, c.in_ok-bytes.ensures.long))
    (omega (arith, c.texts_offset.ensures, c.from-3.ensures))
