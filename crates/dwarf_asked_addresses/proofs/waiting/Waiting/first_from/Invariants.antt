use Rattle.std.proofs.Common.{ℕ, ◌≢◌, ◌<◌, ◌≤◌, ◌-◌, length, slice_index}
use Rattle.dwarf_asked_addresses.specs.Waiting.{WaitTheSame}
use Rattle.dwarf_asked_addresses.proofs.waiting.Waiting.first_from.Given as goal

abbrev pub invariant-ahead : goal.invariant-ahead
invariant-ahead l = record {
  from : l.index ≤ l.found;
  within : l.found < length l.self.next.items;
  same : WaitTheSame l.fn.self.next.items l.self.next.items;
  first : (j : ℕ) → l.index ≤ j → j < l.found → slice_index l.self.next.items j ≢ j;
}

abbrev pub decreases-ahead : goal.decreases-ahead
decreases-ahead l = length l.self.next.items - l.found
