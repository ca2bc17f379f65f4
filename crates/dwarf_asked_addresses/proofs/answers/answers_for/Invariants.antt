use Rattle.std.proofs.Common.{◌≡◌, ℕ, ◌<◌, None, get_or, length}
use Rattle.std.specs.Ordering.{nat_cmp}
use Rattle.std.specs.BTreeMap as tree_map
use Rattle.dwarf_asked_addresses.proofs.answers.answers_for.Given as goal

abbrev pub invariant-loop-address : goal.invariant-loop-address
invariant-loop-address g l = record {
  long : length l.answers.items ≡ l.address-index;
  each : (i : ℕ) → i < l.address-index → get_or l.answers.items i None ≡ tree_map.get nat_cmp l.found (get_or l.addresses i 0);
}
