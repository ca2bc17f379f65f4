use Rattle.std.proofs.Common.{ℕ, ◌≡◌, ◌<◌, length, slice_index}
use Rattle.dwarf_asked_addresses.proofs.waiting.Waiting.new.Given as goal

abbrev pub invariant-loop-index : goal.invariant-loop-index
invariant-loop-index l = record {
  count : length l.next.items ≡ l.index;
  all : (i : ℕ) → i < l.index → slice_index l.next.items i ≡ i;
}
