use Rattle.std.proofs.Common.{◌≡◌, ◌<◌, length}
use Rattle.dwarf_lines.specs.Machine.{rows_from}
use Rattle.dwarf_lines.specs.Views.{header_view}
use Rattle.dwarf_lines.proofs.rows.RowsIterator.next.Given as goal

abbrev pub invariant-instructions : goal.invariant-instructions
invariant-instructions l = record {
  range : 0 < l.self-inside.header.line_range;
  rows : rows_from (header_view l.self-inside.header) l.self-inside.registers l.self-inside.rest.now ≡ l.fn.self;
}

abbrev pub decreases-instructions : goal.decreases-instructions
decreases-instructions l = length l.self-inside.rest.now
