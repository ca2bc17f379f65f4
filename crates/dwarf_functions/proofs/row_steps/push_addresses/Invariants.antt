use Rattle.std.proofs.Common.{◌≡◌, ◌++◌, map}
use Rattle.dwarf_functions.proofs.row_steps.push_addresses.Given as goal

abbrev pub invariant-loop-row : goal.invariant-loop-row
invariant-loop-row l = record {
  can : (goal.iterator-loop-row).can_next l.row-iterator;
  ends : (goal.iterator-loop-row).is_finite l.row-iterator;
  so_far : l.starts.items ++ map (λ row. row.registers.address) l.row-iterator ≡ l.fn.starts.items ++ map (λ row. row.registers.address) l.fn.rows;
}
