-- Archives that are read by the indexes of contents.
use Rattle.std.specs.Prelude.{◌≡◌, ◌⊎◌, ℕ, Bool, List, Contains, Some, true, length, slice_get, take, drop}
use Rattle.std.specs.List.{AllZip}
use Rattle.std.specs.FinSet as set
use Rattle.sha2.specs.Sha256.{sha256}
use Rattle.archive_core.specs.Content.{Operations}
use Rattle.archive_core.specs.Key.{IsKey}
use Rattle.archive_core.specs.Record.{admission_record}
use Rattle.archive_core.specs.Summary.{entry}
use Rattle.archive_core.specs.Valid.{IsValid, key_of}
use Rattle.archive_records.specs.Text.{written}
use Rattle.command_common.specs.Inputs.{Reader, IsGiven}
use Rattle.command_common.specs.declared.faults.InputName.{InputName}
use Rattle.command_common.specs.declared.faults.InputName.TheVariants.{Index}
use Rattle.command_common.specs.declared.faults.Why.{Why}
use Rattle.command_common.specs.declared.faults.Why.TheVariants.{NoLines}
use Rattle.table_source_frames.specs.SliceTable.{HasNoLines}
use Rattle.index_format.specs.Text.{IsIndexText}
use Rattle.laws_index.specs.Indexes.{AnswersUnder, IsIndexFile}
use Rattle.command_given_indexes.specs.Together.{AllThree}

-- each slice of a content is under a key whose parts have their widths, as for each slice of bytes
abbrev pub HaveKeys : Operations → Type 0
HaveKeys o = (slice : List ℕ) → set.contains o (admission_record slice) ≡ true → IsValid slice → IsKey (key_of slice)

-- INDEX is the index file of this content.
abbrev pub IsIndexGiven : {I : Type 0} → Reader I → Operations → Type 0
IsIndexGiven index o = (text : List ℕ) × IsGiven index text × IsIndexFile o text

-- each INDEX is that of one of these contents, in order
abbrev pub AreIndexesGiven : {I : Type 0} → List (Reader I) → List Operations → Type 0
AreIndexesGiven indexes os = AllZip IsIndexGiven indexes os

-- INDEX is that of this content, and ARCHIVE the text of the content.
abbrev pub IsOwnIndex : {I P : Type 0} → Reader I → Reader P → Operations → Type 0
IsOwnIndex index archive o = IsIndexGiven index o × IsGiven archive (written o)

-- the same for each of several
abbrev pub AreOwnIndexes : {I P : Type 0} → List (Reader I) → List (Reader P) → List Operations → Type 0
AreOwnIndexes indexes archives os = AllThree IsOwnIndex indexes archives os

-- no slice of the content has the SHA-256 of a different slice whose admission is at some offset in the bytes
abbrev pub DigestsDifferOver : Operations → List ℕ → Type 0
DigestsDifferOver o bytes = (a b : List ℕ) (offset : ℕ) → set.contains o (admission_record a) ≡ true
    → take (length (admission_record b)) (drop offset bytes) ≡ admission_record b → sha256 a ≡ sha256 b → a ≡ b

-- INDEX is that of this content. ARCHIVE is the text of the content; or it has any bytes, in which `DigestsDifferOver`
-- holds.
abbrev pub IsIndexed : {I P : Type 0} → Reader I → Reader P → Operations → Type 0
IsIndexed index archive o = IsIndexGiven index o
    × (IsGiven archive (written o) ⊎ ((bytes : List ℕ) × IsGiven archive bytes × DigestsDifferOver o bytes))

-- the same for each of several
abbrev pub AreIndexed : {I P : Type 0} → List (Reader I) → List (Reader P) → List Operations → Type 0
AreIndexed indexes archives os = AllThree IsIndexed indexes archives os

-- In an index of a content, the entry with this number is that of the slice.
pub record IsNumberOf (o : Operations) (slice : List ℕ) (number : ℕ) : Type 0 where
  pub text : List ℕ
  pub file : IsIndexFile o text
  pub entries : List (List ℕ)
  pub read : IsIndexText text entries
  pub e : List ℕ
  pub entry_at : slice_get entries number ≡ Some e
  pub entry_is : take 57 e ≡ entry (admission_record slice)

-- Lines are wanted, and an index is refused at the entry of a slice that answers under one of these keys and has no
-- lines: `why` has the number of this entry in the index of the content that has the slice.
pub record IsForLines (lines : Bool) (os : List Operations) (keys : List (List ℕ)) (at : InputName) (why : Why)
    : Type 0 where
  pub wanted : lines ≡ true
  pub input : ℕ
  pub number : ℕ
  pub at_is : at ≡ Index input
  pub why_is : why ≡ NoLines number
  pub key : List ℕ
  pub key_is : Contains keys key
  pub slice : List ℕ
  pub answers : AnswersUnder os key slice
  pub lacks : HasNoLines slice
  pub o : Operations
  pub there : slice_get os input ≡ Some o
  pub is_number : IsNumberOf o slice number
