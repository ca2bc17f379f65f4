-- The answers of the tables of entries in several indexes.
use Rattle.std.specs.Prelude.{◌≡◌, ◌≤◌, ℕ, Bool, true, false, List, [], ◌∷◌, Some, length, take, drop, slice_get}
use Rattle.std.specs.List.{AllZip}
use Rattle.dwarf_source_frames.specs.Frames.{FrameRecord}
use Rattle.archive_core.specs.Lookup.{AnswerRecord, OwnRow, Unanswered, Alone, Disputed}
use Rattle.archive_core.specs.declared.lookup.Where.{Where}
use Rattle.index_format.specs.Entry.{claim_in}
use Rattle.index_lookup.specs.Among.{AreAnsweringAmong, EntryAt}
use Rattle.index_lookup.specs.Told.{AreFramesToldBy, IsToldBy}

-- the row of an entry for an address, with these bytes of the indexes: its digest, and the answer of its table
pub record IsToldRowAt (texts : List (List ℕ)) (asked : Where) (x : EntryAt) (row : OwnRow) : Type 0 where
  pub digest_is : row.digest ≡ take 32 (drop 25 x.entry)
  pub own_is : (text : List ℕ) → slice_get texts x.input ≡ Some text → IsToldBy text (claim_in x.entry) asked row.own

-- the answer of the entries that answer together
abbrev pub IsToldOfAmong : List (List ℕ) → Where → List EntryAt → AnswerRecord → Type 0
IsToldOfAmong texts asked xs Unanswered = xs ≡ []
IsToldOfAmong texts asked xs (Alone own) = (x : EntryAt) × (row : OwnRow) × (xs ≡ x ∷ []) × (row.own ≡ own)
    × IsToldRowAt texts asked x row
IsToldOfAmong texts asked xs (Disputed rows) = (2 ≤ length xs) × AllZip (IsToldRowAt texts asked) xs rows

-- the frames in the table of an entry for an address, with these bytes of the indexes
abbrev pub AreFramesToldAt : List (List ℕ) → Where → EntryAt → List FrameRecord → Type 0
AreFramesToldAt texts asked x frames =
    (text : List ℕ) → slice_get texts x.input ≡ Some text → AreFramesToldBy text (claim_in x.entry) asked frames

-- the frames that are shown for entries: those of each, or none if no lines are asked for
abbrev pub AreShownAmong : List (List ℕ) → Bool → Where → List EntryAt → List (List FrameRecord) → Type 0
AreShownAmong texts true asked xs frames = AllZip (AreFramesToldAt texts asked) xs frames
AreShownAmong texts false asked xs frames = frames ≡ []

-- the answer of several indexes with these bytes and entries for this prefix of a key, with the frames that are shown
pub record IsAnswerAmong (texts : List (List ℕ)) (indexes : List (List (List ℕ))) (prefix : List ℕ) (lines : Bool)
    (asked : Where) (answer : AnswerRecord) (frames : List (List FrameRecord)) : Type 0 where
  pub answering : List EntryAt
  pub are : AreAnsweringAmong prefix indexes answering
  pub answer_is : IsToldOfAmong texts asked answering answer
  pub shown : AreShownAmong texts lines asked answering frames
