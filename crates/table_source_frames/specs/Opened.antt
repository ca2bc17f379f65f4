-- A line table that was opened, among the bytes of stored pages.
use Rattle.std.specs.Prelude.{◌≡◌, ◌+◌, ◌<◌, ◌^◌, ◌++◌, ℕ, List, Option, Result, All, length}
use Rattle.std.specs.List.{concat}
use Rattle.table_checked_pages.specs.Pages.{AreStored}
use Rattle.table_checked_pages.specs.Reading.{ReadsStored}
use Rattle.table_checked_pages.specs.Standing.{IsRestFrom}
use Rattle.table_checked_pages.specs.Views.{ArePagesOf, claim_view}
use Rattle.table_checked_pages.specs.declared.fault.CheckFault.{CheckFault}
use Rattle.table_checked_pages.specs.declared.pages.Pages.{Pages}
use Rattle.table_source_frames.specs.LineTable.{AreFew}
use Rattle.table_source_frames.specs.LineText.{LineParts, all_step_bytes, line_text, others_of, parts_of}
use Rattle.table_source_frames.specs.Steps.{StepRecord}
use Rattle.table_source_frames.specs.declared.table.LineTable.{LineTable}

-- the counts of an opened table are those of these parts, and its strings end where it begins
pub record IsHeadOf (table : LineTable) (parts : LineParts) : Type 0 where
  pub strings : table.strings + length parts.strings ≡ table.offset
  pub steps : table.steps ≡ length parts.steps
  pub step_bytes : table.step_bytes ≡ length (all_step_bytes parts)
  pub scopes : table.scopes ≡ length parts.scopes
  pub files : table.files ≡ length parts.files
  pub texts : table.texts ≡ length (others_of parts)
  pub bytes : table.bytes ≡ length (concat (others_of parts))

-- the lines and columns of frames fit into four bytes
abbrev pub HaveFewLines : List StepRecord → Type 0
HaveFewLines steps = All (λ s. All (λ f. (f.line < 2 ^ 32) × (f.column < 2 ^ 32)) s.frames) steps

-- each number of the table of steps fits into its bytes
pub record HaveWidths (strings : List ℕ) (steps : List StepRecord) : Type 0 where
  pub starts : All (λ s. s.start < 2 ^ 64) steps
  pub lines : HaveFewLines steps
  pub few : AreFew (parts_of strings steps)

-- The bytes of these pages end with the strings and the table of these steps, which was opened.
pub record IsOpened (table : LineTable) (pages : Pages) (text all strings : List ℕ) (steps : List StepRecord)
    : Type 0 where
  pub are_pages : ArePagesOf pages text all
  pub stands : IsRestFrom all table.strings (strings ++ line_text strings steps)
  pub widths : HaveWidths strings steps
  pub head : IsHeadOf table (parts_of strings steps)

-- no opened table, of any steps, is stored there
abbrev pub IsUnstored : LineTable → Pages → List ℕ → Type 0
IsUnstored table pages text =
    (all strings : List ℕ) (steps : List StepRecord) → AreStored text (claim_view pages.claim) all
    → IsOpened table pages text all strings steps → ⊥

-- A call reads from an opened table: its result is true of the steps of that table, and its error is `Changed` only if
-- no such table is stored there.
abbrev pub ReadsTable : {D T : Type 0} → (D → Option (List ℕ)) → (D → ℕ) → D → D → Result T CheckFault → LineTable
    → Pages
    → (LineParts → T → Type 0) → Type 0
ReadsTable whole failures old new result table pages IsTrue = ReadsStored whole failures old new result
    (λ text given. (all strings : List ℕ) (steps : List StepRecord) → IsOpened table pages text all strings steps
    → IsTrue (parts_of strings steps) given)
    (IsUnstored table pages)

-- The same for a part of that table: the result of the call is true of the part, whatever it is.
abbrev pub ReadsPart : {D T : Type 0} (A : Type 0) → (D → Option (List ℕ)) → (D → ℕ) → D → D → Result T CheckFault
    → LineTable
    → Pages → (LineParts → A → Type 0) → (LineParts → A → T → Type 0) → Type 0
ReadsPart A whole failures old new result table pages IsPart IsTrue = ReadsStored whole failures old new result
    (λ text given. (all strings : List ℕ) (steps : List StepRecord) (part : A)
    → IsOpened table pages text all strings steps → IsPart (parts_of strings steps) part
    → IsTrue (parts_of strings steps) part given)
    (λ text. (all strings : List ℕ) (steps : List StepRecord) (part : A) → AreStored text (claim_view pages.claim) all
    → IsOpened table pages text all strings steps → IsPart (parts_of strings steps) part → ⊥)
