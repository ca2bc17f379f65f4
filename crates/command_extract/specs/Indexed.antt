-- The file that `extract` makes from archives by their indexes.
use Rattle.std.specs.Prelude.{◌≡◌, ◌⊎◌, ℕ, List, [], ◌∷◌, Option, None}
use Rattle.std.specs.List.{AllZip}
use Rattle.archive_core.specs.Content.{Operations}
use Rattle.archive_core.specs.Key.{key_bytes}
use Rattle.archive_core.specs.declared.find.FindRow.{FindRow}
use Rattle.archive_core.specs.declared.keys.Digest.{Digest}
use Rattle.archive_core.specs.declared.keys.SliceKey.{SliceKey}
use Rattle.text_reports.specs.Finds.{find_lines}
use Rattle.command_common.specs.Inputs.{EachUnfailed, IsRefusal, Reader, readers}
use Rattle.command_common.specs.Outputs.{Takes, Writer}
use Rattle.command_common.specs.declared.faults.CommandFault.{CommandFault}
use Rattle.command_common.specs.declared.faults.InputName.{InputName}
use Rattle.command_common.specs.declared.faults.Why.{Why}
use Rattle.index_lookup.specs.Among.{AreTied, EntryAt}
use Rattle.index_lookup.specs.Named.{IsRowAt, Names}
use Rattle.index_lookup.specs.declared.named.NamedSlice.{NamedSlice}
use Rattle.command_given_indexes.specs.Several.{AreRefusedLater, AreUnfailedTogether, HoldTogether}
use Rattle.command_given_indexes.specs.Together.{AreAllKept, AreLater, AreReadWith, IsFirstRefusedByIndex, IsOneOf}
use Rattle.command_extract.specs.Entries.{AreUnchosen, HoldsSlice, IsChosen, StopsSlice}
use Rattle.command_extract.specs.Extract.{Extraction, Held, MakesNone, MakesSlice}
use Rattle.command_extract.specs.Kept.{KeepsWanted}
use Rattle.command_extract.specs.Wanted.{written_line}
use Rattle.command_extract.specs.declared.place.Place.{Place}
use Rattle.command_extract.specs.declared.place.Place.TheVariants.{Named, Kept}

-- ---- by the entries

-- The indexes were read, and the entry is that of the wanted slice. `archive` is its archive after that; no other was
-- read.
pub record IsChosenFrom {I P : Type 0} (indexes : List (Reader I)) (archives : List (Reader P)) (key : SliceKey)
    (digest : Option Digest) (x : EntryAt) (archive : Reader P) : Type 0 where
  pub all : List (List (List ℕ))
  pub read : AreReadWith (key.uuid ∷ []) indexes archives all
  pub unfailed : EachUnfailed indexes
  pub chosen : IsChosen key digest all x
  pub later : List (Reader P)
  pub are_later : AreLater archives later
  pub archive_is : IsOneOf later x.input archive

-- Its archive has this slice at the offset in its entry, and `told` is its line.
pub record MakesEntry {I P : Type 0} (indexes : List (Reader I)) (archives : List (Reader P)) (key : SliceKey)
    (digest : Option Digest) (slice told : List ℕ) : Type 0 where
  pub x : EntryAt
  pub archive : Reader P
  pub from : IsChosenFrom indexes archives key digest x archive
  pub holds : HoldsSlice archive x slice
  pub told_is : told ≡ written_line key slice

-- Its slice was not sent, for this fault.
pub record StopsEntry {I P : Type 0} (indexes : List (Reader I)) (archives : List (Reader P)) (key : SliceKey)
    (digest : Option Digest) (draft : Writer) (fault : CommandFault) : Type 0 where
  pub x : EntryAt
  pub archive : Reader P
  pub from : IsChosenFrom indexes archives key digest x archive
  pub stops : StopsSlice archive x draft fault

-- The indexes were read, and no entry is that of the wanted slice: `told` has the lines of those that answer.
pub record LacksEntry {I P : Type 0} (indexes : List (Reader I)) (archives : List (Reader P)) (key : SliceKey)
    (digest : Option Digest) (told : List ℕ) : Type 0 where
  pub all : List (List (List ℕ))
  pub read : AreReadWith (key.uuid ∷ []) indexes archives all
  pub answering : List EntryAt
  pub are : AreUnchosen key digest all answering
  pub rows : List FindRow
  pub rows_are : AllZip IsRowAt answering rows
  pub told_is : told ≡ find_lines rows

-- ---- by the slices, if two of them answer and no entry decides which comes first

-- the slices that the indexes name under the key, joined, satisfy `IsTrue`, and entries are tied
abbrev pub HoldTied : {I P : Type 0} → List (Reader I) → List (Reader P) → SliceKey → Held
HoldTied indexes archives key IsTrue =
    (o : Operations) × (held : HoldTogether (key.uuid ∷ []) (key_bytes key ∷ []) indexes archives o)
    × AreTied (key_bytes key) held.all × IsTrue o

-- an index or the length of its archive is refused; or, if entries are tied, an archive whose slices are read
abbrev pub AreRefusedBefore : {I P : Type 0} → List (Reader I) → List (Reader P) → SliceKey → InputName → Why → Type 0
AreRefusedBefore indexes archives key at why =
    IsFirstRefusedByIndex (key.uuid ∷ []) indexes archives at why
    ⊎ ((refused : AreRefusedLater (key.uuid ∷ []) (key_bytes key ∷ []) indexes archives at why)
    × AreTied (key_bytes key) refused.all)

-- ---- the command

-- `extract` over these archives. It is stopped before OUT is created; or while the slice of an entry is sent.
abbrev pub extract_at : {I P : Type 0} → List (Reader I) → List (Reader P) → SliceKey → Option Digest → Writer
    → Extraction
extract_at indexes archives key digest draft = record {
  writes = record {
    Makes = λ slice told. MakesEntry indexes archives key digest slice told
        ⊎ ((digest ≡ None) × MakesSlice (HoldTied indexes archives key) key None slice told);
    Stops = λ fault.
        (IsRefusal (AreRefusedBefore indexes archives key) (AreUnfailedTogether indexes archives) fault
        × Takes draft [])
        ⊎ StopsEntry indexes archives key digest draft fault;
    Unfailed = AreUnfailedTogether indexes archives;
  };
  Lacks = λ told. LacksEntry indexes archives key digest told
      ⊎ ((digest ≡ None) × MakesNone (HoldTied indexes archives key) key None told);
}

-- ---- the choice

-- The indexes were read, and this entry is that of the wanted slice. `seen` are the archives after that.
pub record IsNamedBy {I P : Type 0} (indexes : List (Reader I)) (whole : P → Option (List ℕ)) (failures : P → ℕ)
    (before seen : List P) (key : SliceKey) (digest : Option Digest) (named : NamedSlice) : Type 0 where
  pub all : List (List (List ℕ))
  pub read : AreReadWith (key.uuid ∷ []) indexes (readers whole failures before seen) all
  pub unfailed : AreUnfailedTogether indexes (readers whole failures before seen)
  pub kept : AreAllKept whole failures before seen
  pub x : EntryAt
  pub chosen : IsChosen key digest all x
  pub names : Names x named

-- a slice is found, with this SHA-256 and length: in its archive by its entry, or among the slices that were read
abbrev pub IsFoundAt : {A I P : Type 0} → (A → Operations) → List (Reader I) → (P → Option (List ℕ)) → (P → ℕ) → List P
    → List P → SliceKey → Option Digest → Place A → Digest → ℕ → Type 0
IsFoundAt content indexes whole failures before seen key digest (Named named) given size =
    IsNamedBy indexes whole failures before seen key digest named × (given ≡ named.row.digest) × (size ≡ named.size)
IsFoundAt content indexes whole failures before seen key digest (Kept kept) given size =
    KeepsWanted (extract_at indexes (readers whole failures before seen) key digest) key (content kept.archive)
    kept.number given size
