use Rattle.std.proofs.Common.{◌≡◌, ◌-◌}
use Rattle.dwarf_lines.specs.Instructions.{after_operands}
use Rattle.dwarf_lines.proofs.reading.after_operands.Given as goal

abbrev pub invariant-loop-done : goal.invariant-loop-done
invariant-loop-done l = after_operands (l.count - l.done) l.rest ≡ after_operands l.count l.bytes
