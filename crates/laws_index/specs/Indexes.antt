-- Contents, and the indexes made from them.
use Rattle.std.specs.Prelude.{◌≡◌, ◌≢◌, ◌<◌, ◌≤◌, ◌^◌, ℕ, true, List, Contains, Some, fold, length, slice_get}
use Rattle.std.specs.List.{AllZip}
use Rattle.std.specs.FinSet as set
use Rattle.sha2.specs.Sha256.{sha256}
use Rattle.archive_core.specs.Content.{IsAnswering, IsContent, Operations, joined}
use Rattle.archive_core.specs.Key.{IsKey, key_bytes}
use Rattle.archive_core.specs.Part.{is_under}
use Rattle.archive_core.specs.Record.{admission_record}
use Rattle.archive_core.specs.declared.keys.SliceKey.{SliceKey}
use Rattle.archive_records.specs.Text.{written}
use Rattle.index_format.specs.Text.{IsIndexText}
use Rattle.index_format.specs.Tree.{is_under_one}
use Rattle.index_build.specs.Content.{HasByteSlices, IsIndexOf}

-- the text is the index of a content of byte strings, and neither it nor the archive has 2^64 bytes
pub record IsIndexFile (o : Operations) (text : List ℕ) : Type 0 where
  pub content : IsContent o
  pub slices : HasByteSlices o
  pub archive_fits : length (written o) < 2 ^ 64
  pub index : IsIndexOf o text
  pub index_fits : length text < 2 ^ 64

-- each text is the index of one of these contents, in order, and `indexes` are the entries that are read from them
pub record AreIndexes (os : List Operations) (texts : List (List ℕ)) (indexes : List (List (List ℕ))) : Type 0 where
  pub files : AllZip IsIndexFile os texts
  pub read : AllZip IsIndexText texts indexes

-- one of these contents has the slice
abbrev pub IsHeld : List Operations → List ℕ → Type 0
IsHeld os slice = (o : Operations) × Contains os o × (set.contains o (admission_record slice) ≡ true)

-- no two different slices of several contents have one SHA-256; for one content there is no assumption
abbrev pub DigestsDiffer : List Operations → Type 0
DigestsDiffer os = 2 ≤ length os → (a b : List ℕ) → IsHeld os a → IsHeld os b → sha256 a ≡ sha256 b → a ≡ b

-- the joint content of all of these
abbrev pub all_joined : List Operations → Operations
all_joined os = fold joined set.empty os

-- a content among others has the slice, which answers in the joint content of all
pub record IsAnsweringOf (os : List Operations) (key : SliceKey) (number : ℕ) (slice : List ℕ) : Type 0 where
  pub o : Operations
  pub there : slice_get os number ≡ Some o
  pub has : set.contains o (admission_record slice) ≡ true
  pub answers : IsAnswering (all_joined os) key slice

-- one of these contents has the slice, and it answers under the key with these bytes in their joint content
pub record AnswersUnder (os : List Operations) (prefix slice : List ℕ) : Type 0 where
  pub is_held : IsHeld os slice
  pub answers : (key : SliceKey) → IsKey key → key_bytes key ≡ prefix → IsAnswering (all_joined os) key slice

-- two contents have two different slices of one length that answer under a key
pub record AreTiedSlices (os : List Operations) (key : SliceKey) : Type 0 where
  pub one : List ℕ
  pub other : List ℕ
  pub number : ℕ
  pub other_number : ℕ
  pub one_is : IsAnsweringOf os key number one
  pub other_is : IsAnsweringOf os key other_number other
  pub numbers : number ≢ other_number
  pub lengths : length one ≡ length other
  pub differ : one ≢ other

-- each entry under this prefix is under one of these UUIDs
abbrev pub AreUnderOne : List (List ℕ) → List ℕ → Type 0
AreUnderOne uuids prefix = (e : List ℕ) → is_under prefix e ≡ true → is_under_one uuids e ≡ true
