-- The entries of several indexes that answer for a key, together.
use Rattle.std.specs.Prelude.{◌≡◌, ◌≢◌, ◌<◌, ◌≤◌, ◌⊎◌, ◌&&◌, ◌||◌, ◌==◌, not, ℕ, Bool, true, List, Contains, All, Some}
use Rattle.std.specs.Prelude.{take, drop, slice_get, slice_index}
use Rattle.std.specs.List.{AllPairs, flat_map, list_any}
use Rattle.std.specs.Str.{bytes_eq}
use Rattle.index_format.specs.Entry.{length_in, offset_in}
use Rattle.index_lookup.specs.Told.{admits_under, is_companion}

-- an entry of one of several indexes: the number of its index, its number among the entries of that, and its bytes
pub record EntryAt : Type 0 where
  pub input : ℕ
  pub number : ℕ
  pub entry : List ℕ

-- the entry is in these indexes
pub record IsAmong (indexes : List (List (List ℕ))) (x : EntryAt) : Type 0 where
  pub entries : List (List ℕ)
  pub index_is : slice_get indexes x.input ≡ Some entries
  pub entry_is : slice_get entries x.number ≡ Some x.entry

-- the entries of all indexes
abbrev pub all_of : List (List (List ℕ)) → List (List ℕ)
all_of indexes = flat_map (λ entries. entries) indexes

-- the key and the digest after the tag of an entry
abbrev pub subject_of : List ℕ → List ℕ
subject_of e = take 56 (drop 1 e)

-- the second entry is that of the retirement that covers the admission in the first: it has the same key and digest
abbrev pub covers : List ℕ → List ℕ → Bool
covers e r = (slice_index r 0 == 1) && bytes_eq (subject_of r) (subject_of e)

-- an entry is that of a slice with this prefix, and no retirement in these entries covers it
abbrev pub lives_under : List ℕ → List (List ℕ) → List ℕ → Bool
lives_under prefix all e = admits_under prefix e && not (list_any (covers e) all)

-- there is a live companion with this prefix
abbrev pub has_live_companion : List ℕ → List (List ℕ) → Bool
has_live_companion prefix all = list_any (λ e. lives_under prefix all e && is_companion e) all

-- an entry answers: it is live with this prefix, and it is a companion's if there is a live companion
abbrev pub answers_among : List ℕ → List (List ℕ) → List ℕ → Bool
answers_among prefix all e = lives_under prefix all e && (not (has_live_companion prefix all) || is_companion e)

-- two entries are for one slice: they have the same tag, key and digest
abbrev pub AreOfOneSlice : List ℕ → List ℕ → Type 0
AreOfOneSlice e f = take 57 e ≡ take 57 f

-- Two entries have records of one length in two archives and are for two slices: they do not determine which record is
-- first.
pub record HaveNoOrder (x y : EntryAt) : Type 0 where
  pub same_length : length_in x.entry ≡ length_in y.entry
  pub inputs : x.input ≢ y.input
  pub slices : AreOfOneSlice x.entry y.entry → ⊥

-- two such entries answer
pub record AreTied (prefix : List ℕ) (indexes : List (List (List ℕ))) : Type 0 where
  pub one : EntryAt
  pub other : EntryAt
  pub one_among : IsAmong indexes one
  pub other_among : IsAmong indexes other
  pub one_answers : answers_among prefix (all_of indexes) one.entry ≡ true
  pub other_answers : answers_among prefix (all_of indexes) other.entry ≡ true
  pub unordered : HaveNoOrder one other

-- The record of the first entry precedes that of the second: it is shorter; or it has the same length and precedes it
-- in the same archive.
abbrev pub StandsBefore : EntryAt → EntryAt → Type 0
StandsBefore x y = (length_in x.entry < length_in y.entry)
    ⊎ ((length_in x.entry ≡ length_in y.entry) × (x.input ≡ y.input) × (x.number ≢ y.number)
    × (offset_in x.entry ≤ offset_in y.entry))

-- the second entry is for the same slice as the first, which is in an earlier index
pub record IsRepeatOf (x y : EntryAt) : Type 0 where
  pub same_length : length_in x.entry ≡ length_in y.entry
  pub earlier : x.input < y.input
  pub slices : AreOfOneSlice x.entry y.entry

-- These entries of the indexes answer for this prefix, each slice once, in the order of their records, which the
-- entries determine.
pub record AreAnsweringAmong (prefix : List ℕ) (indexes : List (List (List ℕ))) (answering : List EntryAt)
    : Type 0 where
  pub among : All (IsAmong indexes) answering
  pub each : All (λ x. answers_among prefix (all_of indexes) x.entry ≡ true) answering
  pub whole : (x : EntryAt) → IsAmong indexes x → answers_among prefix (all_of indexes) x.entry ≡ true
      → Contains answering x ⊎ ((y : EntryAt) × Contains answering y × IsRepeatOf y x)
  pub ordered : AllPairs StandsBefore answering
  pub untied : AreTied prefix indexes → ⊥
