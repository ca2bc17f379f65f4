use Rattle.std.proofs.Common.{◌≡◌, ℕ, ◌||◌, length}
use Rattle.std.specs.Ordering.{nat_cmp}
use Rattle.std.specs.BTreeSet as tree_set
use Rattle.dwarf_ranges.specs.Aranges.{is_named}
use Rattle.dwarf_ranges.proofs.named_sets.named_units.Given as goal

abbrev pub invariant-sets : goal.invariant-sets
invariant-sets l = (offset : ℕ) → (is_named l.rest offset || tree_set.contains nat_cmp l.named offset) ≡ is_named l.debug_aranges offset

abbrev pub decreases-sets : goal.decreases-sets
decreases-sets l = length l.rest
