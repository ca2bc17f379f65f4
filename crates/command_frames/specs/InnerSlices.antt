-- The rows of records under UUIDs, and the lines of slices after answers: definitions for private functions. No public
-- contract uses them.
use Rattle.std.specs.Prelude.{◌≡◌, ℕ, Bool, true, false, List, ◌++◌, drop, take}
use Rattle.std.specs.List.{AllZip, flat_map, list_any}
use Rattle.std.specs.Str.{bytes_eq}
use Rattle.archive_core.specs.Content.{Operations}
use Rattle.archive_core.specs.Find.{IsFinds}
use Rattle.archive_core.specs.declared.find.FindRow.{FindRow}
use Rattle.archive_core.specs.declared.keys.SliceKey.{SliceKey}
use Rattle.text_reports.specs.Slices.{AnswersAmong, TellsSlices}
use Rattle.command_common.specs.declared.faults.Status.{Status}
use Rattle.command_frames.specs.Slices.{IsAnsweringEntryRow}

-- the bytes after the tag of a record begin with one of these UUIDs
abbrev pub is_under_one : List (List ℕ) → List ℕ → Bool
is_under_one uuids r = list_any (λ uuid. bytes_eq uuid (take 16 (drop 1 r))) uuids

-- The rows that searches of the content return under these UUIDs, one search after another.
pub record AreRowsUnder (o : Operations) (uuids : List (List ℕ)) (pool : List FindRow) : Type 0 where
  pub lists : List (List FindRow)
  pub finds : AllZip (IsFinds o) uuids lists
  pub pool_is : pool ≡ flat_map (λ rows. rows) lists

-- The lines of the slices that answer, by such rows.
pub record TellsRowsUnder (o : Operations) (uuids : List (List ℕ)) (keys : List SliceKey) (text : List ℕ) : Type 0 where
  pub pool : List FindRow
  pub rows : AreRowsUnder o uuids pool
  pub tells : TellsSlices (AnswersAmong pool) keys text

-- The answers, followed by the lines of the slices that answer, by such rows.
pub record TellsRowsAfter (Tells : Status → List ℕ → Type 0) (o : Operations) (uuids : List (List ℕ))
    (keys : List SliceKey) (status : Status) (text : List ℕ) : Type 0 where
  pub answers : List ℕ
  pub told : Tells status answers
  pub slices : List ℕ
  pub rows : TellsRowsUnder o uuids keys slices
  pub text_is : text ≡ answers ++ slices

-- If they are wanted, the answers are followed by the lines of the slices that answer under the keys, by the entries of
-- these indexes, and then by the lines of refusals.
abbrev pub AreFollowed : Bool → List (List (List ℕ)) → List SliceKey → List ℕ → List ℕ → List ℕ → Type 0
AreFollowed false all keys answers refused text = text ≡ answers
AreFollowed true all keys answers refused text = (slices : List ℕ)
    × TellsSlices (IsAnsweringEntryRow all keys) keys slices × (text ≡ answers ++ (slices ++ refused))
