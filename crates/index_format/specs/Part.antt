-- What a question reads of an index: the entries under several UUIDs.
use Rattle.std.specs.Prelude.{◌≡◌, ◌⊎◌, ℕ, List, Option, Err}
use Rattle.index_format.specs.Fault.{HasEnds}
use Rattle.index_format.specs.InnerReading.{FailsInEnds}
use Rattle.index_format.specs.Reading.{ReadsText}
use Rattle.index_format.specs.Text.{archive_length_in}
use Rattle.index_format.specs.Tree.{AreReadUnder, FailsInRuns}
use Rattle.index_format.specs.declared.index_fault.IndexFault.{IndexFault}

-- The text is that of an index, and of its entries these were read, all under these UUIDs; its archive has this length.
pub record IsPartOf (uuids : List (List ℕ)) (text : List ℕ) (some : List (List ℕ)) (size : ℕ) : Type 0 where
  pub ends : HasEnds text
  pub read : AreReadUnder uuids text some
  pub size_is : size ≡ archive_length_in text

-- The fault of a text whose entries under UUIDs were not read: of its beginning or end, or of a page that was read, or of
-- an entry.
abbrev pub IsPartFault : List ℕ → IndexFault → Type 0
IsPartFault text fault = FailsInEnds text fault ⊎ (HasEnds text × FailsInRuns text fault)

-- why the entries under UUIDs were not read
abbrev pub FailsToReadPart : {D : Type 0} → (D → Option (List ℕ)) → (D → ℕ) → D → D → IndexFault → Type 0
FailsToReadPart whole failures old new fault =
    ReadsText {T = Unit {0}} whole failures old new (Err fault) (λ text _. Unit {0}) IsPartFault
