use Rattle.std.proofs.Common.{arith}
use Rattle.table_symbols.specs.Table.{table_bytes}
use Rattle.table_symbols.proofs.TableLemmas.{strings_rest}
use Rattle.table_symbols.proofs.table.Table.into_lines.Goals as goal

pub returns-clause-lines : goal.returns-clause-lines
returns-clause-lines c = λ text t opened. (
  c.forget.ensures.keeps text (table_bytes t) opened.pages,
  strings_rest t c.first_string-strings.result opened.fits (omega (arith, c.first_string-strings.ensures, opened.head.sections, opened.head.rows)),
  omega (arith, c.first_string-strings.ensures, c.first_line-lines.ensures, opened.head.strings),
)

pub returns-clause-bytes : goal.returns-clause-bytes
returns-clause-bytes c = λ text all opened. (
  c.forget.ensures.keeps text all opened.pages,
  omega (arith, c.first_string-strings.ensures, opened.counts.sections, opened.counts.rows),
  omega (arith, c.first_line-lines.ensures, opened.counts.sections, opened.counts.rows, opened.counts.strings),
)
