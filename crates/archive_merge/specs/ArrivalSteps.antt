-- The reports of a merge on its sides, step by step: the terms of the inner functions. No contract of a public function
-- has them.
use Rattle.std.specs.Prelude.{◌≡◌, ℕ, List, [], ◌∷◌, ◌++◌, map, Bool, true, false, not, ◌&&◌}
use Rattle.std.specs.Prelude.{Option, Some, None, Result, MatchResult}
use Rattle.std.specs.declared.cmp.Ordering.{Ordering}
use Rattle.std.specs.declared.cmp.Ordering.TheVariants.{Less, Equal, Greater}
use Rattle.std.specs.List.{list_any}
use Rattle.archive_core.specs.Content.{Operations, is_covered}
use Rattle.archive_core.specs.Record.{IsRecord}
use Rattle.archive_records.specs.declared.fault.MergeFault.{MergeFault}
use Rattle.archive_records.specs.declared.writing.Sizes.{Sizes}
use Rattle.archive_records.specs.Reader.{set_of}
use Rattle.archive_merge.specs.Sides.{Sides}
use Rattle.archive_merge.specs.declared.side.MergeInput.{MergeInput}
use Rattle.archive_merge.specs.declared.arrivals.Arrival.{Arrival}
use Rattle.archive_merge.specs.MergeSteps.{HasStoppedMerge, Merging, MergedAll, first_of}
use Rattle.archive_merge.specs.Arrivals.{arrival_by, arrival_of}

-- the effect of the next record on the left side: none if only the left side has it
abbrev pub IsNextArrivalBy : Ordering → MergeInput → MergeInput → Option Arrival → Type 0
IsNextArrivalBy Less left right arrival = arrival ≡ None
IsNextArrivalBy Equal left right arrival = arrival ≡ Some (arrival_by left.reader.dropped true)
IsNextArrivalBy Greater left right arrival = IsRecord right.reader.last
    → arrival ≡ Some (arrival_by (is_covered (set_of left.reader.retired) right.reader.last) false)

abbrev pub IsNextArrival : Sides → Option Arrival → Type 0
IsNextArrival m arrival = IsNextArrivalBy (first_of m.left m.right) m.left m.right arrival

-- whether the left side has the next record: it read it, and does not retire it
abbrev pub has_next_by : Ordering → MergeInput → Bool
has_next_by Less left = not left.reader.dropped
has_next_by Equal left = not left.reader.dropped
has_next_by Greater left = false

abbrev pub has_next : Sides → Bool
has_next m = has_next_by (first_of m.left m.right) m.left

-- the reported arrivals, with one more if there is one
abbrev pub with_arrival : List Arrival → Option Arrival → List Arrival
with_arrival arrivals None = arrivals
with_arrival arrivals (Some arrival) = arrivals ++ arrival ∷ []

-- whether the second operations retire a record, and the first do not
abbrev pub is_withdrawn : Operations → Operations → List ℕ → Bool
is_withdrawn o p r = is_covered p r && not (is_covered o r)

-- A merge in this state. For each processed record of the right side its effect on the content of the left side's
-- records is reported, and whether the records of the right side retire one of the left side's.
pub record MergingWithArrivals (a1 b1 a2 b2 w0 w1 : Option (List ℕ)) (m : Sides)
    (arrivals : List Arrival) (withdraws : Bool) : Type 0 where
  pub merging : Merging a1 b1 a2 b2 w0 w1 m
  pub arrivals_are : arrivals ≡ map (arrival_of (set_of merging.both.lefts)) merging.both.rights
  pub withdraws_is : withdraws
      ≡ list_any (is_withdrawn (set_of merging.both.lefts) (set_of merging.both.rights)) merging.both.lefts

-- The effect of a call on such a merge, with the inputs, the output and the reports before and after it.
abbrev pub GoesOnWithArrivals : {T : Type 0} → (b1 c1 b2 c2 w1 w2 : Option (List ℕ)) → Sides → Sides
    → List Arrival → List Arrival → Bool → Bool → Result T MergeFault → Type 0
GoesOnWithArrivals b1 c1 b2 c2 w1 w2 old new arrivals more withdrew withdraws result =
    (a1 a2 w0 : Option (List ℕ)) → MergingWithArrivals a1 b1 a2 b2 w0 w1 old arrivals withdrew
    → MatchResult result (λ _. MergingWithArrivals a1 c1 a2 c2 w0 w2 new more withdraws)
    (λ e. HasStoppedMerge a1 c1 a2 c2 w0 w2 e)

-- The same for a merge that has ended.
pub record ReportsAllArrivals (a1 b1 a2 b2 w0 w1 : Option (List ℕ)) (sizes : Sizes) (arrivals : List Arrival)
    (withdraws : Bool)
    : Type 0 where
  pub merged : MergedAll a1 b1 a2 b2 w0 w1 sizes
  pub arrivals_are : arrivals ≡ map (arrival_of (set_of merged.merging.both.lefts)) merged.merging.both.rights
  pub withdraws_is : withdraws ≡ list_any
      (is_withdrawn (set_of merged.merging.both.lefts) (set_of merged.merging.both.rights)) merged.merging.both.lefts
