use Rattle.std.proofs.Common.{◌≡◌, ◌≤◌, length, drop}
use Rattle.dwarf_encoding.specs.Inner.{onto_high_bits}
use Rattle.dwarf_encoding.proofs.leb128.onto_high_bits.Given as goal

abbrev pub invariant-loop-left : goal.invariant-loop-left
invariant-loop-left l = record {
  within : l.left ≤ length l.bytes;
  value_is : l.value ≡ onto_high_bits (drop l.left l.bytes) l.fn.high;
}

abbrev pub decreases-loop-left : goal.decreases-loop-left
decreases-loop-left l = l.left
