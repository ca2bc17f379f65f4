-- Several archives with their indexes: reading them, and which of them is refused first.
use Rattle.std.specs.Prelude.{◌≡◌, ℕ, ◌+◌, List, [], ◌∷◌, Some, Option, fold, map, take, drop, slice_get, ◌⊎◌}
use Rattle.std.specs.List.{AllZip}
use Rattle.std.specs.FinSet as set
use Rattle.archive_core.specs.Content.{Operations}
use Rattle.index_format.specs.Text.{placed_in}
use Rattle.command_common.specs.Archives.{merged}
use Rattle.command_common.specs.Inputs.{Reader, EachUnfailed, EachUntouched, Unfailed}
use Rattle.command_common.specs.declared.faults.InputName.{InputName}
use Rattle.command_common.specs.declared.faults.InputName.TheVariants.{Archive, Index}
use Rattle.command_common.specs.declared.faults.Why.{Why}
use Rattle.command_common.specs.declared.faults.Why.TheVariants.{Stale}
use Rattle.command_given_indexes.specs.Prefixes.{HasLength, HoldsNamed, IsReadFor, IsStaleFor}
use Rattle.command_given_indexes.specs.Indexes.{HoldsPart, IsRefusedByPart, IsUnreadAt}

-- the three lists have the same length, and the relation holds at each index
abbrev pub AllThree : {X Y Z : Type 0} → (X → Y → Z → Type 0) → List X → List Y → List Z → Type 0
AllThree R [] [] [] = Unit {0}
AllThree R (x ∷ xs) (y ∷ ys) (z ∷ zs) = R x y z × AllThree R xs ys zs
AllThree R xs ys zs = ⊥

-- Of the entries of INDEX these were read, those under these UUIDs, and ARCHIVE has the length stated in INDEX.
pub record IsReadWith {I P : Type 0} (uuids : List (List ℕ)) (index : Reader I) (archive : Reader P)
    (all : List (List ℕ)) : Type 0 where
  pub size : ℕ
  pub index_is : HoldsPart uuids index all size
  pub archive_is : HasLength archive size

-- of the entries of each index these were read, and the archives have the lengths stated there
abbrev pub AreReadWith : {I P : Type 0} → List (List ℕ) → List (Reader I) → List (Reader P) → List (List (List ℕ))
    → Type 0
AreReadWith uuids indexes archives all = AllThree (IsReadWith uuids) indexes archives all

-- the archives have these lengths
abbrev pub HaveLengths : {P : Type 0} → List (Reader P) → List ℕ → Type 0
HaveLengths archives sizes = AllZip HasLength archives sizes

-- The input with this number: the readers before it did not fail, and those after it are unchanged.
pub record IsOneOf {S : Type 0} (inputs : List (Reader S)) (number : ℕ) (input : Reader S) : Type 0 where
  pub unfailed : EachUnfailed (take number inputs)
  pub is : slice_get inputs number ≡ Some input
  pub behind : EachUntouched (drop (number + 1) inputs)

-- One of these indexes, or the length of its archive, is refused; those before it are not.
pub record IsFirstRefusedByIndex {I P : Type 0} (uuids : List (List ℕ)) (indexes : List (Reader I))
    (archives : List (Reader P)) (at : InputName) (why : Why) : Type 0 where
  pub number : ℕ
  pub all : List (List (List ℕ))
  pub before : AreReadWith uuids (take number indexes) (take number archives) all
  pub index : Reader I
  pub archive : Reader P
  pub index_is : IsOneOf indexes number index
  pub archive_is : IsOneOf archives number archive
  pub refused : IsRefusedByPart uuids number index archive at why

-- ---- after the indexes were read

-- an input has the same bytes, and no further failure
abbrev pub IsKept : {S : Type 0} → (S → Option (List ℕ)) → (S → ℕ) → S → S → Type 0
IsKept left failures old new = (left new ≡ left old) × (failures new ≡ failures old)

-- each of these has the same bytes
abbrev pub HaveSameBytes : {S : Type 0} → (S → Option (List ℕ)) → List S → List S → Type 0
HaveSameBytes left old new = map left new ≡ map left old

-- the same holds for each of these; the lists have one length
abbrev pub AreAllKept : {S : Type 0} → (S → Option (List ℕ)) → (S → ℕ) → List S → List S → Type 0
AreAllKept left failures old new = AllZip (IsKept left failures) old new

-- The same input from a later state on; it was kept until then.
pub record IsLater {S : Type 0} (first later : Reader S) : Type 0 where
  pub left_is : later.left ≡ first.left
  pub failures_is : later.failures ≡ first.failures
  pub new_is : later.new ≡ first.new
  pub kept : IsKept first.left first.failures first.old later.old

-- the same holds for each of these
abbrev pub AreLater : {S : Type 0} → List (Reader S) → List (Reader S) → Type 0
AreLater firsts laters = AllZip IsLater firsts laters

-- for each archive, the records that its entries name under these prefixes make these contents
abbrev pub AreNamedBy : {P : Type 0} → List (List ℕ) → List (Reader P) → List (List (List ℕ)) → List (List Operations)
    → Type 0
AreNamedBy prefixes archives all groups =
    AllThree (λ archive entries parts. HoldsNamed prefixes archive (placed_in entries) parts) archives all groups

-- a content joined with groups of others, in order
abbrev pub merged_each : Operations → List (List Operations) → Operations
merged_each o groups = fold merged o groups

-- This content is the join of the records that these entries name in their archives under these prefixes.
pub record HoldNamed {P : Type 0} (prefixes : List (List ℕ)) (archives : List (Reader P)) (all : List (List (List ℕ)))
    (p : Operations) : Type 0 where
  pub groups : List (List Operations)
  pub named : AreNamedBy prefixes archives all groups
  pub content_is : p ≡ merged_each set.empty groups

-- An archive is refused at the offsets in its index: its device failed, reported at offset 0 for its length, or at the
-- record that was read; or its device did not fail, and an entry names no record, or it has another length by now than
-- its index tells.
abbrev pub IsRefusedAtPlaces : {P : Type 0} → List (List ℕ) → ℕ → Reader P → List (List ℕ) → ℕ → InputName → Why
    → Type 0
IsRefusedAtPlaces prefixes number archive entries size at why =
    ((at ≡ Archive number) × IsUnreadAt (IsReadFor prefixes (placed_in entries)) archive why)
    ⊎ ((at ≡ Index number) × Unfailed archive
    × ((entry : Option ℕ) × (why ≡ Stale entry) × IsStaleFor prefixes archive (placed_in entries) size entry))

-- One of these archives is refused at the offsets in its index; those before it are not.
pub record IsFirstRefusedAtPlaces {P : Type 0} (prefixes : List (List ℕ)) (archives : List (Reader P))
    (all : List (List (List ℕ))) (sizes : List ℕ) (at : InputName) (why : Why) : Type 0 where
  pub number : ℕ
  pub groups : List (List Operations)
  pub before : AreNamedBy prefixes (take number archives) (take number all) groups
  pub archive : Reader P
  pub archive_is : IsOneOf archives number archive
  pub entries : List (List ℕ)
  pub entries_are : slice_get all number ≡ Some entries
  pub size : ℕ
  pub size_is : slice_get sizes number ≡ Some size
  pub refused : IsRefusedAtPlaces prefixes number archive entries size at why
