-- Texts among the strings of a slice.
use Rattle.std.specs.Prelude.{ℕ, zero, suc, List, ◌≡◌, ◌≢◌, ◌<◌, ◌⊎◌, length, slice_index, true}
use Rattle.table_source_frames.specs.LineText.{begins_text, string_at}
use Rattle.table_source_frames_build.specs.Kept.{KeptRecord, text_at}

-- a text is at an offset: a string begins there, or the `_` that begins one is before it
pub record IsAt (strings text : List ℕ) (place : ℕ) : Type 0 where
  pub inside : place < length strings
  pub begins : begins_text strings place ≡ true
  pub is : text ≡ string_at strings place

-- 1 and the first of the offsets below a limit at which a text is; 0 if there is none
abbrev pub IsPlaceBelow : List ℕ → ℕ → List ℕ → ℕ → Type 0
IsPlaceBelow strings limit text zero = (place : ℕ) → place < limit → IsAt strings text place → ⊥
IsPlaceBelow strings limit text (suc place) =
    (place < limit) × IsAt strings text place × ((other : ℕ) → other < place → IsAt strings text other → ⊥)

-- the number of a text after a name at an offset: 1 and the offset if the text had no number and is the name
abbrev pub IsNoted : List ℕ → List ℕ → ℕ → ℕ → ℕ → Type 0
IsNoted text name place old new =
    ((new ≡ suc place) × (old ≡ 0) × (text ≡ name)) ⊎ ((new ≡ old) × ((0 < old) ⊎ (text ≢ name)))

-- the numbers of all kept texts
pub record ArePlacesBelow (k : KeptRecord) (strings : List ℕ) (limit : ℕ) (places : List ℕ) : Type 0 where
  pub count : length places ≡ length k.texts
  pub each : (index : ℕ) → index < length places
      → IsPlaceBelow strings limit (text_at k (suc index)) (slice_index places index)

-- the numbers of all kept texts after a name at an offset
pub record AreNoted (k : KeptRecord) (name : List ℕ) (place : ℕ) (old new : List ℕ) : Type 0 where
  pub count : length new ≡ length old
  pub each : (index : ℕ) → index < length old
      → IsNoted (text_at k (suc index)) name place (slice_index old index) (slice_index new index)
