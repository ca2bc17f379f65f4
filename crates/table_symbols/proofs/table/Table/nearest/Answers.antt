use Rattle.std.proofs.Common.{◌==◌, take, drop, Some, None, ap, sym, subst, ◌∙◌, arith}
use Rattle.std.specs.List.{before_first}
use Rattle.table_checked_pages.specs.Pages.{AreStored}
use Rattle.table_checked_pages.specs.Views.{claim_view}
use Rattle.table_checked_pages.proofs.ReadLemmas.{after_ok, passed_on}
use Rattle.macho_symbols.specs.Symbols.{strings_of}
use Rattle.macho_symbols.specs.Rows.{IsRowFor}
use Rattle.table_symbols.specs.Table.{table_bytes}
use Rattle.macho_symbols.proofs.StepLemmas.{by_step}
use Rattle.macho_symbols.proofs.Said.{none_said, some_said}
use Rattle.table_symbols.proofs.TableLemmas.{length-table, rows_stand, strings_stand}
use Rattle.table_symbols.proofs.table.Table.nearest.Goals as goal

pub returns-in_err-row-clause-read : goal.returns-in_err-row-clause-read
returns-in_err-row-clause-read g c =
    passed_on c.in_err-row.was c.from_residual.ensures.1
    (λ text known absent t opened stored. absent (table_bytes t) stored opened.pages
    (omega (arith, length-table t opened.fits, opened.head.rows, opened.head.sections, c.first_row-first.ensures)))
    c.row_for.ensures.read

pub returns-in_default-clause-read : goal.returns-in_default-clause-read
returns-in_default-clause-read g c = record {
  says = λ text known image t bytes is opened.
      let first = rows_stand t c.first_row-first.result opened.fits (omega (arith, c.first_row-first.ensures, opened.head.sections)) in
      let found = c.in_ok-row.ensures.read.says text known (table_bytes t) t.rows opened.pages opened.fits.rows (sym opened.head.rows) first in
      by_step image t.rows c.args.address None bytes c.ranges.address.fits is.rows (subst (IsRowFor t.rows c.args.address) c.in_default.is found);
  keeps = c.in_ok-row.ensures.read.keeps;
  counts = c.in_ok-row.ensures.read.counts;
}

pub returns-then-row-eq0-clause-read : goal.returns-then-row-eq0-clause-read
returns-then-row-eq0-clause-read g c = record {
  says = λ text known image t bytes is opened.
      let first = rows_stand t c.first_row-first.result opened.fits (omega (arith, c.first_row-first.ensures, opened.head.sections)) in
      let found = c.in_ok-row.ensures.read.says text known (table_bytes t) t.rows opened.pages opened.fits.rows (sym opened.head.rows) first in
      none_said image c.args.address c.in-Some.row (by_step image t.rows c.args.address (Some c.in-Some.row) bytes
      c.ranges.address.fits is.rows (subst (IsRowFor t.rows c.args.address) c.in-Some.is found)) c.if-row-eq0.true;
  keeps = c.in_ok-row.ensures.read.keeps;
  counts = c.in_ok-row.ensures.read.counts;
}

pub returns-in_err-name-clause-read : goal.returns-in_err-name-clause-read
returns-in_err-name-clause-read g c =
    let row = c.in_ok-row.ensures.read in
    passed_on c.in_err-name.was c.from_residual-in_err-name.ensures.1
    (λ text known absent t opened stored.
    absent (table_bytes t) (subst (λ claim. AreStored text (claim_view claim) (table_bytes t)) (sym c.in_ok-row.ensures.claim) stored)
    (c.in_ok-row.ensures.keeps text (table_bytes t) known opened.pages)
    (omega (arith, length-table t opened.fits, opened.head.rows, opened.head.sections, opened.head.strings, c.first_string-first.ensures)))
    (after_ok row.keeps row.counts c.name_from.ensures.read)

pub returns-clause-read : goal.returns-clause-read
returns-clause-read g c =
    let row = c.in_ok-row.ensures.read in
    let name = after_ok row.keeps row.counts c.in_ok-name.ensures.read in
    record {
      says = λ text known image t bytes is opened.
          let first = rows_stand t c.first_row-first.result opened.fits (omega (arith, c.first_row-first.ensures, opened.head.sections)) in
          let found = row.says text known (table_bytes t) t.rows opened.pages opened.fits.rows (sym opened.head.rows) first in
          let says = by_step image t.rows c.args.address (Some c.in-Some.row) bytes c.ranges.address.fits is.rows
          (subst (IsRowFor t.rows c.args.address) c.in-Some.is found) in
          let stands = strings_stand t c.first_string-first.result opened.fits
          (omega (arith, c.first_string-first.ensures, opened.head.sections, opened.head.rows)) in
          let pages = c.in_ok-row.ensures.keeps text (table_bytes t) known opened.pages in
          let named = name.says text known (table_bytes t) pages in
          let strings = ap (λ n. take n (drop c.first_string-first.result (table_bytes t))) opened.head.strings ∙ stands.1 in
          some_said image c.args.address c.in-Some.row c.in_ok-name.name.items says c.if-row-eq0.false
          (named ∙ ap (λ s. before_first (λ b. b == 0) (drop c.from.result s)) (strings ∙ is.strings)
          ∙ ap (λ n. before_first (λ b. b == 0) (drop n (strings_of image))) c.from.ensures);
      keeps = name.keeps;
      counts = name.counts;
    }

pub returns-in_err-name-clause-bytes : goal.returns-in_err-name-clause-bytes
returns-in_err-name-clause-bytes g c = λ text all known is. record {
  headed = is.headed;
  counts = is.counts;
  pages = c.name_from.ensures.keeps text all (c.in_ok-row.ensures.read.keeps ∙ known)
      (c.in_ok-row.ensures.keeps text all known is.pages);
}

pub returns-clause-bytes : goal.returns-clause-bytes
returns-clause-bytes g c = λ text all known is. record {
  headed = is.headed;
  counts = is.counts;
  pages = c.in_ok-name.ensures.keeps text all (c.in_ok-row.ensures.read.keeps ∙ known)
      (c.in_ok-row.ensures.keeps text all known is.pages);
}
