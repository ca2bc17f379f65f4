use Rattle.std.proofs.Common.{ℕ, ◌≡◌, ◌≢◌, ◌<◌, ◌≤◌, ◌-◌, length, slice_index, get_or, None, Some}
use Rattle.dwarf_asked_addresses.specs.Waiting.{Waits}
use Rattle.dwarf_functions.proofs.row_steps.RowSteps.cover.Given as goal

abbrev pub invariant-starts : goal.invariant-starts
invariant-starts l = record {
  starts : l.self.starts ≡ l.fn.self.starts;
  count : length l.self.rows.items ≡ length l.fn.self.rows.items;
  nexts : length l.waiting.next.items ≡ length l.fn.waiting.next.items;
  from : l.first ≤ l.at;
  within : l.at < length l.waiting.next.items;
  here : Waits l.waiting.next.items l.at;
  covered : (i : ℕ) → l.first ≤ i → i < l.at → i < l.end → Waits l.fn.waiting.next.items i → get_or l.self.rows.items i None ≡ Some l.row;
  no_longer : (i : ℕ) → l.first ≤ i → i < l.at → i < l.end → slice_index l.waiting.next.items i ≢ i;
  still_before : (i : ℕ) → i < length l.fn.waiting.next.items → i < l.first → Waits l.fn.waiting.next.items i → Waits l.waiting.next.items i;
  still_behind : (i : ℕ) → i < length l.fn.waiting.next.items → l.end ≤ i → Waits l.fn.waiting.next.items i → Waits l.waiting.next.items i;
  still_ahead : (i : ℕ) → i < length l.fn.waiting.next.items → l.at ≤ i → Waits l.fn.waiting.next.items i → Waits l.waiting.next.items i;
  only : (i : ℕ) → i < length l.fn.waiting.next.items → Waits l.waiting.next.items i → Waits l.fn.waiting.next.items i;
  before_first : (i : ℕ) → i < l.first → get_or l.self.rows.items i None ≡ get_or l.fn.self.rows.items i None;
  behind : (i : ℕ) → l.end ≤ i → get_or l.self.rows.items i None ≡ get_or l.fn.self.rows.items i None;
  done : (i : ℕ) → i < length l.fn.self.rows.items → slice_index l.fn.waiting.next.items i ≢ i
      → get_or l.self.rows.items i None ≡ get_or l.fn.self.rows.items i None;
}

abbrev pub decreases-starts : goal.decreases-starts
decreases-starts l = length l.waiting.next.items - l.at
