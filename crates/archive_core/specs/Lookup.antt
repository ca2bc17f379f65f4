-- The answer of a lookup: the symbols that the answering slices of a key have for an address.
use Rattle.std.specs.Prelude.{◌≡◌, ◌≤◌, ◌+◌, ◌-◌, ◌^◌, ◌&&◌, ℕ, nat_le, nat_lt, List, [], ◌∷◌, length}
use Rattle.std.specs.Prelude.{map, Option, Some, None, MatchOption, option_and_then, if◌then◌else◌}
use Rattle.std.specs.List.{AllZip}
use Rattle.sha2.specs.Sha256.{sha256}
use Rattle.macho_image.specs.Sections.{text_base_of}
use Rattle.macho_symbols.specs.Found.{FoundRecord, FindsNearest}
use Rattle.macho_symbols.specs.Views.{found_view}
use Rattle.archive_core.specs.Content.{Operations}
use Rattle.archive_core.specs.Find.{AreAnswering}
use Rattle.archive_core.specs.declared.keys.Digest.{Digest}
use Rattle.archive_core.specs.declared.keys.SliceKey.{SliceKey}
use Rattle.archive_core.specs.declared.lookup.Where.{Where}
use Rattle.archive_core.specs.declared.lookup.Where.TheVariants.{File, Loaded}
use Rattle.archive_core.specs.declared.lookup.Own.{Own}
use Rattle.archive_core.specs.declared.lookup.Own.TheVariants.{NoSymbol as Own_NoSymbol, Symbol as Own_Symbol}
use Rattle.archive_core.specs.declared.lookup.Answer.{Answer}
use Rattle.archive_core.specs.declared.lookup.Answer.TheVariants.{Unknown, NoSymbol, Symbol, Conflict}

-- address - load + base in whole numbers, if the result is within 0 to 2 ^ 64 - 1
abbrev pub unslid : ℕ → ℕ → ℕ → Option ℕ
unslid base load address = if nat_le load (address + base) && nat_lt (address + base - load) (2 ^ 64)
    then Some (address + base - load) else None

-- the file address of an asked address, by the vmaddr of the file's segment __TEXT; without such a segment, a loaded
-- address has none
abbrev pub address_by : Option ℕ → Where → Option ℕ
address_by base (File address) = Some address
address_by base (Loaded load address) = option_and_then (λ base. unslid base load address) base

-- the address in a slice's file of an asked address
abbrev pub file_address : List ℕ → Where → Option ℕ
file_address slice asked = address_by (text_base_of slice) asked

-- the answer of one slice: the nearest symbol of the file address, or none if there is no file address
abbrev pub IsOwn : List ℕ → Where → Option FoundRecord → Type 0
IsOwn slice asked own = MatchOption (file_address slice asked) (own ≡ None) (λ address. FindsNearest slice address own)

-- a slice's digest, and the answer of the slice
pub record OwnRow : Type 0 where
  pub digest : List ℕ
  pub own : Option FoundRecord

-- the row of a slice
pub record IsOwnRow (asked : Where) (slice : List ℕ) (row : OwnRow) : Type 0 where
  pub digest_is : row.digest ≡ sha256 slice
  pub own_is : IsOwn slice asked row.own

-- an answer, without the memory of its names: no slice answers, one slice answers with a symbol or without one, or
-- several slices answer, each for itself
pub data AnswerRecord : Type 0 where
  Unanswered : AnswerRecord
  Alone : Option FoundRecord → AnswerRecord
  Disputed : List OwnRow → AnswerRecord

-- the answer of the answering slices together
abbrev pub IsAnswerOf : Where → List (List ℕ) → AnswerRecord → Type 0
IsAnswerOf asked slices Unanswered = slices ≡ []
IsAnswerOf asked slices (Alone own) = (slice : List ℕ) × (slices ≡ slice ∷ []) × IsOwn slice asked own
IsAnswerOf asked slices (Disputed rows) = (2 ≤ length slices) × AllZip (IsOwnRow asked) slices rows

-- the answer of a content for a key: that of its answering slices, in ascending order of their records
pub record IsAnswer (o : Operations) (key : SliceKey) (asked : Where) (answer : AnswerRecord) : Type 0 where
  pub slices : List (List ℕ)
  pub answering : AreAnswering o key slices
  pub answer_is : IsAnswerOf asked slices answer

-- two or more slices answer for a key
pub record IsConflict (o : Operations) (key : SliceKey) : Type 0 where
  pub slices : List (List ℕ)
  pub answering : AreAnswering o key slices
  pub several : 2 ≤ length slices

-- the answer of one slice, without the memory of its names
abbrev pub own_view : Own → Option FoundRecord
own_view Own_NoSymbol = None
own_view (Own_Symbol found) = Some (found_view found)

-- a slice's row, without the memory of its names
abbrev pub own_row : Digest × Own → OwnRow
own_row row = record { digest = row.0.0; own = own_view row.1 }

-- the answer of an archive, without the memory of its names
abbrev pub answer_view : Answer → AnswerRecord
answer_view Unknown = Unanswered
answer_view NoSymbol = Alone None
answer_view (Symbol found) = Alone (Some (found_view found))
answer_view (Conflict rows) = Disputed (map own_row rows.items)
