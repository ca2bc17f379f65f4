-- The effect of a record on a content.
use Rattle.std.specs.Prelude.{ℕ, List, Bool, true, false, if◌then◌else◌}
use Rattle.std.specs.FinSet as set
use Rattle.archive_core.specs.Content.{Operations, is_covered}
use Rattle.archive_merge.specs.declared.arrivals.Arrival.{Arrival}
use Rattle.archive_merge.specs.declared.arrivals.Arrival.TheVariants.{New, Had, Retired}

-- by whether a record is covered, and if it is not, whether it is present
abbrev pub arrival_by : Bool → Bool → Arrival
arrival_by retired had = if retired then Retired else (if had then Had else New)

-- the effect of a record on these operations: a record that they cover is retired, whether they contain it or not
unfoldable pub arrival_of : Operations → List ℕ → Arrival
arrival_of o r = arrival_by (is_covered o r) (set.contains o r)

-- whether the record is new
abbrev pub is_new : Arrival → Bool
is_new New = true
is_new Had = false
is_new Retired = false
