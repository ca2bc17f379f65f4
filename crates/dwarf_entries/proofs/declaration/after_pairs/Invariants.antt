use Rattle.std.proofs.Common.{◌≡◌, drop}
use Rattle.dwarf_entries.specs.Specifications.{values_after}
use Rattle.dwarf_entries.proofs.declaration.after_pairs.Given as goal

abbrev pub invariant-loop-pair : goal.invariant-loop-pair
invariant-loop-pair l = values_after l.version (drop l.pair-index l.pairs) l.rest ≡ values_after l.version l.pairs l.bytes
