-- A merge that reports the effect of each record of its right side on the left one, and whether the right one retires a
-- slice of the left one.
use Rattle.std.specs.Prelude.{◌≡◌, ℕ, List, Bool, map, IfSome, ◌⊎◌}
use Rattle.std.specs.List.{list_any}
use Rattle.join_core.specs.Listing.{listing}
use Rattle.byte_device.specs.Devices.{Stream}
use Rattle.archive_core.specs.Content.{Operations, IsMade, content_of, is_covered}
use Rattle.archive_records.specs.declared.writing.Sizes.{Sizes}
use Rattle.archive_records.specs.Text.{AreOperations, written, old_written}
use Rattle.archive_merge.specs.declared.arrivals.Arrival.{Arrival}
use Rattle.archive_merge.specs.Merging.{IsMerged}
use Rattle.archive_merge.specs.Arrivals.{arrival_of}

-- The text is an archive's, of either version, and these are its operations. In version 1 some of them may be covered.
pub record HasOperations (operations : Operations) (text : List ℕ) : Type 0 where
  pub are : AreOperations operations
  pub whole : (IsMade operations × (text ≡ written operations)) ⊎ (text ≡ old_written operations)

-- Both inputs are texts of archives, and the text of their join was written. For each operation of the right text, in
-- the order of its records, its effect on the content of the left one was reported, and whether one of them retires a
-- slice of the left one.
pub record IsMergedWithArrivals {R S W : Type 0} (left : Stream R) (right : Stream S) (out : Stream W) (sizes : Sizes)
    (arrivals : List Arrival) (withdraws : Bool) : Type 0 where
  pub merged : IsMerged left right out sizes
  pub operations : Operations
  pub are : AreOperations operations
  pub right_is : IfSome (right.bytes right.old) (HasOperations operations)
  pub makes : merged.p ≡ content_of operations
  pub arrivals_are : arrivals ≡ map (arrival_of merged.o) (listing operations)
  pub withdraws_is : withdraws ≡ list_any (is_covered operations) (listing merged.o)
