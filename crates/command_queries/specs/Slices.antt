-- The lines of the slices that answer under the UUIDs of keys, if these are wanted after answers.
use Rattle.std.specs.Prelude.{◌≡◌, ◌↔◌, ℕ, List, ◌++◌, Bool, true, false, Contains}
use Rattle.archive_core.specs.Content.{Operations, IsAnswering}
use Rattle.archive_core.specs.Find.{row_of}
use Rattle.archive_core.specs.declared.find.FindRow.{FindRow}
use Rattle.archive_core.specs.declared.keys.SliceKey.{SliceKey}
use Rattle.archive_core.specs.declared.operations.Operation.TheVariants.{Admit}
use Rattle.text_reports.specs.Slices.{TellsSlices}
use Rattle.command_common.specs.declared.faults.Status.{Status}

-- these are the UUIDs of these keys, in any order and with any repeats
abbrev pub AreUuidsOf : List SliceKey → List (List ℕ) → Type 0
AreUuidsOf keys uuids = (uuid : List ℕ)
    → Contains uuids uuid ↔ ((key : SliceKey) × Contains keys key × (key.uuid ≡ uuid))

-- one of these keys has the UUID of this one
abbrev pub HaveUuidOf : List SliceKey → SliceKey → Type 0
HaveUuidOf keys key = (other : SliceKey) × Contains keys other × (other.uuid ≡ key.uuid)

-- The row is that of a slice that answers in the content under its key, and one of these keys has its UUID.
pub record IsAnsweringRow (o : Operations) (keys : List SliceKey) (row : FindRow) : Type 0 where
  pub slice : List ℕ
  pub answers : IsAnswering o row.key slice
  pub row_is : row ≡ row_of (Admit slice)
  pub asked : HaveUuidOf keys row.key

-- Answers, followed by the lines of the slices with these rows.
pub record TellsSlicesAfter (Tells : Status → List ℕ → Type 0) (IsRow : FindRow → Type 0) (keys : List SliceKey)
    (status : Status) (text : List ℕ) : Type 0 where
  pub answers : List ℕ
  pub told : Tells status answers
  pub slices : List ℕ
  pub tells_slices : TellsSlices IsRow keys slices
  pub text_is : text ≡ answers ++ slices

-- answers, followed by the lines of slices if these are wanted
abbrev pub WithSlices : Bool → (Status → List ℕ → Type 0) → (FindRow → Type 0) → List SliceKey → Status → List ℕ
    → Type 0
WithSlices false Tells IsRow keys status text = Tells status text
WithSlices true Tells IsRow keys status text = TellsSlicesAfter Tells IsRow keys status text
