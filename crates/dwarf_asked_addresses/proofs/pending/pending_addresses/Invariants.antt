use Rattle.std.proofs.Common.{◌≡◌, ℕ, ◌<◌, true, get_or}
use Rattle.std.specs.Ordering.{nat_cmp}
use Rattle.std.specs.BTreeSet as tree_set
use Rattle.dwarf_asked_addresses.proofs.pending.pending_addresses.Given as goal

abbrev pub invariant-loop-address : goal.invariant-loop-address
invariant-loop-address l = (i : ℕ) → i < l.address-index → tree_set.contains nat_cmp l.all (get_or l.addresses i 0) ≡ true
