-- Starts that rows cover, one row after another: definitions of inner functions. No contract of a public function uses
-- them.
use Rattle.std.specs.Prelude.{ℕ, List, ◌≡◌, ◌≢◌, ◌+◌, ◌<◌, ◌≤◌, length, slice_index, slice_index_or, Option, Some, None}
use Rattle.dwarf_lines.specs.Inner.{covering_with}
use Rattle.dwarf_lines.specs.declared.registers.Row.{Row}
use Rattle.dwarf_asked_addresses.specs.Waiting.{Waits}

-- the waiting starts from index `first` on, before index `end`, get a row, and no longer wait
pub record Covers (first end : ℕ) (row : Row) (old new : List ℕ) (before after : List (Option Row)) : Type 0 where
  pub count : length after ≡ length before
  pub nexts : length new ≡ length old
  pub covered : (i : ℕ) → first ≤ i → i < end → Waits old i → slice_index_or after i None ≡ Some row
  pub no_longer : (i : ℕ) → first ≤ i → i < end → slice_index new i ≢ i
  pub still_before : (i : ℕ) → i < length old → i < first → Waits old i → Waits new i
  pub still_behind : (i : ℕ) → i < length old → end ≤ i → Waits old i → Waits new i
  pub only : (i : ℕ) → i < length old → Waits new i → Waits old i
  pub before_first : (i : ℕ) → i < first → slice_index_or after i None ≡ slice_index_or before i None
  pub behind : (i : ℕ) → end ≤ i → slice_index_or after i None ≡ slice_index_or before i None
  pub done : (i : ℕ) → i < length before → slice_index old i ≢ i
      → slice_index_or after i None ≡ slice_index_or before i None

-- each start waits for the first row that covers it, of the row before and those that are left, or has the first of all
-- rows
pub record AreKnown (starts next : List ℕ) (rows : List (Option Row)) (before : Option Row) (left all : List Row)
    : Type 0 where
  pub count : length rows ≡ length starts
  pub nexts : length next ≡ length starts + 1
  pub blank : (i : ℕ) → i < length starts → Waits next i → slice_index_or rows i None ≡ None
  pub waits : (i : ℕ) → i < length starts → Waits next i
      → covering_with (slice_index starts i) before left ≡ covering_with (slice_index starts i) None all
  pub found : (i : ℕ) → i < length starts → slice_index next i ≢ i
      → slice_index_or rows i None ≡ covering_with (slice_index starts i) None all

-- each start has the first row that covers it
pub record AreCovered (all : List Row) (starts : List ℕ) (rows : List (Option Row)) : Type 0 where
  pub count : length rows ≡ length starts
  pub each : (i : ℕ) → i < length starts
      → slice_index_or rows i None ≡ covering_with (slice_index starts i) None all
