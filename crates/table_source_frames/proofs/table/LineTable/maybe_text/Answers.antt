use Rattle.std.proofs.Common.{Some, refl, ap, sym, ◌∙◌}
use Rattle.table_checked_pages.proofs.ReadLemmas.{passed_on}
use Rattle.table_source_frames.proofs.OpenedLemmas.{no_text, some_text}
use Rattle.table_source_frames.specs.LineText.{parts_of}
use Rattle.table_source_frames.proofs.table.LineTable.maybe_text.Goals as goal

pub returns-then-number-eq0-clause-read : goal.returns-then-number-eq0-clause-read
returns-then-number-eq0-clause-read g c = record {
  says = λ text known all strings steps told opened is. ap (λ o. o) (no_text (parts_of strings steps) c.args.number told c.if-number-eq0.true is);
  keeps = refl;
  counts = refl;
}

pub returns-in_err-text-clause-read : goal.returns-in_err-text-clause-read
returns-in_err-text-clause-read g c =
    passed_on c.in_err-text.was c.from_residual.ensures.1
    (λ text known absent all strings steps told stored opened is.
    let some = some_text (parts_of strings steps) c.args.number told c.if-number-eq0.false is in
    absent all strings steps some.0 stored opened some.2)
    c.text.ensures.read

pub returns-clause-read : goal.returns-clause-read
returns-clause-read g c = record {
  says = λ text known all strings steps told opened is.
      let some = some_text (parts_of strings steps) c.args.number told c.if-number-eq0.false is in
      ap Some (c.in_ok-text.ensures.read.says text known all strings steps some.0 opened some.2) ∙ sym some.1;
  keeps = c.in_ok-text.ensures.read.keeps;
  counts = c.in_ok-text.ensures.read.counts;
}

pub returns-clause-bytes : goal.returns-clause-bytes
returns-clause-bytes g c = λ text all known pages. c.in_ok-text.ensures.bytes text all known pages

pub returns-then-number-eq0-clause-bytes : goal.returns-then-number-eq0-clause-bytes
returns-then-number-eq0-clause-bytes g c = λ text all known pages. c.if-number-eq0.true
