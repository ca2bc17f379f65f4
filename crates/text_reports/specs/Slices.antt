-- The lines of the slices that answer for keys.
use Rattle.std.specs.Prelude.{◌≡◌, ◌≢◌, ◌↔◌, ◌⊎◌, ℕ, List, ◌++◌, codes, Contains}
use Rattle.std.specs.List.{flat_map}
use Rattle.std.specs.List.Sorted.{IsStrictlySortedBy}
use Rattle.std.specs.Ordering.{nat_cmp, on, then_cmp}
use Rattle.std.specs.Cmp.Lexicographic.{slice_cmp}
use Rattle.std.specs.declared.cmp.Ordering.{Ordering}
use Rattle.archive_core.specs.Key.{key_bytes}
use Rattle.archive_core.specs.declared.keys.SliceKey.{SliceKey}
use Rattle.archive_core.specs.declared.find.FindRow.{FindRow}
use Rattle.archive_core.specs.declared.find.FindState.TheVariants.{Retired, Dsym}
use Rattle.text_reports.specs.Finds.{find_row_text}
use Rattle.text_reports.specs.Report.{line}
use Rattle.text_reports.specs.Rows.{key_text}
use Rattle.text_reports.specs.declared.finds.KeyForm.TheVariants.{Whole}

-- two rows are for one slice: they have the same key and digest
abbrev pub AreOfOneSlice : FindRow → FindRow → Type 0
AreOfOneSlice a b = (a.key ≡ b.key) × (a.digest ≡ b.digest)

-- one of these rows retires the slice of this one
abbrev pub IsRetiredAmong : List FindRow → FindRow → Type 0
IsRetiredAmong rows row =
    (other : FindRow) × Contains rows other × (other.state ≡ Retired) × AreOfOneSlice other row

-- the row is one of these, and for a slice that none of them retires
abbrev pub LivesAmong : List FindRow → FindRow → Type 0
LivesAmong rows row = Contains rows row × (row.state ≢ Retired) × (IsRetiredAmong rows row → ⊥)

-- no companion with the key of this row is live among these
abbrev pub HasNoCompanionAmong : List FindRow → FindRow → Type 0
HasNoCompanionAmong rows row =
    (other : FindRow) → LivesAmong rows other → other.key ≡ row.key → other.state ≢ Dsym

-- the row is for a slice that answers, by these rows: a companion, or an image whose key has none
abbrev pub AnswersAmong : List FindRow → FindRow → Type 0
AnswersAmong rows row = LivesAmong rows row × ((row.state ≡ Dsym) ⊎ HasNoCompanionAmong rows row)

-- keys by their bytes
abbrev pub slice_key_cmp : SliceKey → SliceKey → Ordering
slice_key_cmp = on key_bytes (slice_cmp nat_cmp)

-- rows by their keys, and for one key by their digests
abbrev pub slice_row_cmp : FindRow → FindRow → Ordering
slice_row_cmp = then_cmp (on (λ row. row.key) slice_key_cmp) (on (λ row. row.digest.0) (slice_cmp nat_cmp))

-- no slice answers for the key
abbrev pub absent_text : SliceKey → List ℕ
absent_text key = key_text key ++ codes " absent"

-- a line for each row, and then one for each key without a row
abbrev pub slices_lines : List FindRow → List SliceKey → List ℕ
slices_lines rows absent =
    flat_map (λ row. line (find_row_text Whole row)) rows ++ flat_map (λ key. line (absent_text key)) absent

-- The lines of all rows with the property, each once, by their keys and digests; and of those of these keys that have
-- none.
pub record TellsSlices (IsRow : FindRow → Type 0) (keys : List SliceKey) (text : List ℕ) : Type 0 where
  pub rows : List FindRow
  pub absent : List SliceKey
  pub ascending : IsStrictlySortedBy slice_row_cmp rows
  pub exactly : (row : FindRow) → Contains rows row ↔ IsRow row
  pub absent_ascending : IsStrictlySortedBy slice_key_cmp absent
  pub absent_exactly : (key : SliceKey)
      → Contains absent key ↔ (Contains keys key × ((row : FindRow) → IsRow row → row.key ≢ key))
  pub text_is : text ≡ slices_lines rows absent
