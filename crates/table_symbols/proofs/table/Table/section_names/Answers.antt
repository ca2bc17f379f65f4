use Rattle.std.proofs.Common.{ap, sym, refl, ◌∙◌, arith}
use Rattle.table_checked_pages.proofs.ReadLemmas.{passed_on}
use Rattle.table_symbols.specs.Table.{table_bytes}
use Rattle.table_symbols.specs.Found.{names_at}
use Rattle.table_symbols.proofs.FoundLemmas.{names_read, no_names, none_at, none_past}
use Rattle.table_symbols.proofs.TableLemmas.{length-table}
use Rattle.table_symbols.proofs.table.Table.section_names.Goals.{then-sect-eq0-via-then-sect-eq0, then-sect-eq0-via-else-sect-eq0+then-from-self}
use Rattle.table_symbols.proofs.table.Table.section_names.Goals as goal

pub returns-then-sect-eq0-clause-read : goal.returns-then-sect-eq0-clause-read
returns-then-sect-eq0-clause-read g c = record {
  says = λ text known t opened. elim c.then-sect-eq0.branch [
    | then-sect-eq0-via-then-sect-eq0 w ↦ sym (ap (names_at t.names) w.if-sect-eq0.true ∙ none_at t.names ∙ no_names)
    | then-sect-eq0-via-else-sect-eq0+then-from-self w ↦
        sym (none_past t.names c.args.sect (omega (arith, w.if-from-self.true, w.from.ensures, opened.head.sections)) ∙ no_names)
  ];
  keeps = refl;
  counts = refl;
}

pub returns-in_err-read-clause-read : goal.returns-in_err-read-clause-read
returns-in_err-read-clause-read g c =
    passed_on c.in_err-read.was c.from_residual.ensures.1
    (λ text known absent t opened stored.
    absent (table_bytes t) stored opened.pages
    (omega (
      arith,
      length-table t opened.fits,
      opened.head.sections,
      c.if-sect-eq0.false,
      c.from.ensures,
      c.from-2.ensures,
      c.if-from-self.false,
      c.read.auto.buf,
    )))
    c.read.ensures.read

pub returns-clause-read : goal.returns-clause-read
returns-clause-read g c =
    let read = c.in_ok-read.ensures.read in
    record {
      says = λ text known t opened.
          names_read t c.args.sect _ _ c.read.new.buf opened.fits (omega (arith, c.if-sect-eq0.false))
          (omega (arith, opened.head.sections, c.from.ensures, c.if-from-self.false))
          (omega (arith, c.from-2.ensures, c.if-sect-eq0.false)) c.read.auto.buf
          (read.says text known (table_bytes t) opened.pages);
      keeps = read.keeps;
      counts = read.counts;
    }
