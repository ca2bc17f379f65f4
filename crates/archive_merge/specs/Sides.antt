-- A merge in its contracts: a retirement that both sides have is kept once, and counts as each one's own.
use Rattle.std.specs.Prelude.{ℕ, List, Some}
use Rattle.archive_records.specs.declared.writing.Sizes.{Sizes}
use Rattle.archive_records.specs.Reader.{beside}
use Rattle.archive_merge.specs.declared.merging.Merge.{Merge}
use Rattle.archive_merge.specs.declared.side.MergeInput.{MergeInput}

-- two texts that are merged, and the sizes of the written part of their join
pub record Sides : Type 0 where
  pub left : MergeInput
  pub right : MergeInput
  pub written : Sizes

-- a side that has the shared retirements as its own
abbrev pub side_with : List (List ℕ) → MergeInput → MergeInput
side_with shared side = record side { reader = beside (Some shared) side.reader }

-- both sides in this form; the right one is seen as a text that is read
abbrev pub sides_of : {B : Type 0} → (B → MergeInput) → Merge B → Sides
sides_of seen m =
    record { left = side_with m.shared m.left; right = side_with m.shared (seen m.right); written = m.written }
