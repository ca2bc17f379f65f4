use Rattle.std.proofs.Common.{sym, ap, None, Some, length, arith}
use Rattle.dwarf_lines.proofs.RowLemmas.{step, less}
use Rattle.dwarf_lines.proofs.rows.RowsIterator.next.Goals as goal

pub instructions-smaller : goal.instructions-smaller
instructions-smaller c = less _ _ _ _ c.in_ok-instruction.ensures

pub instructions-preserved : goal.instructions-preserved
instructions-preserved c = record {
  range = c.instructions.invariant.range;
  rows = step _ _ _ _ _ _ _ None _ c.in_ok-instruction.ensures c.applied-registers.ensures
      c.registers_with-self-inside.ensures c.in_default.ensures c.instructions.invariant.rows;
}

pub returns-in-Some-clause-steps : goal.returns-in-Some-clause-steps
returns-in-Some-clause-steps c =
    sym (step _ _ _ _ _ _ _ (Some c.in-Some.row) _ c.in_ok-instruction.ensures c.applied-registers.ensures
    c.registers_with-self-inside.ensures c.in-Some.ensures c.instructions.invariant.rows)

pub returns-in-Some-clause-goes : goal.returns-in-Some-clause-goes
returns-in-Some-clause-goes c =
    let assigned = step _ _ _ _ _ _ _ (Some c.in-Some.row) _ c.in_ok-instruction.ensures c.applied-registers.ensures
    c.registers_with-self-inside.ensures c.in-Some.ensures c.instructions.invariant.rows in
    record { on = λ ends. (tt, tt, omega (arith, ap length assigned)); keeps = tt; rests = λ ends. tt }
