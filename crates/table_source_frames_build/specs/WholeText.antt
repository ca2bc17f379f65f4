-- The whole bytes of a table, by numbers. No contract of a public function uses these definitions.
use Rattle.std.specs.Prelude.{ℕ, List, [], ◌++◌, ◌≡◌, length, nat_eq, Option, Some, None}
use Rattle.std.specs.Int.{w64, to_be_bytes}
use Rattle.std.specs.List.{concat}
use Rattle.table_checked_pages.specs.Groups.{bytes_of, group_rows}
use Rattle.table_source_frames.specs.LineTable.{FitsLines}
use Rattle.table_source_frames.specs.LineText.{line_text, text_rows}
use Rattle.table_source_frames.specs.Numbering.{numbered_after}
use Rattle.table_source_frames.specs.Steps.{StepRecord}
use Rattle.table_source_frames_build.specs.Kept.{KeptRecord}
use Rattle.table_source_frames_build.specs.PartBytes.{file_rows, groups_by, scope_rows, text_number, texts_at}
use Rattle.table_source_frames_build.specs.PartNumbers.{file_uses, name_uses, path_uses, scope_uses}
use Rattle.table_source_frames_build.specs.Places.{ArePlacesBelow}
use Rattle.table_source_frames_build.specs.declared.parts.Parts.{Parts}
use Rattle.table_source_frames_build.specs.declared.step.Step.{Step}

-- the places of texts among strings, and the numbers of the scopes, files and other texts of steps
pub record AreOrders (k : KeptRecord) (strings : List ℕ) (steps : List Step) (places scopes files texts : List ℕ)
    : Type 0 where
  pub places_are : ArePlacesBelow k strings (length strings) places
  pub scopes_are : scopes ≡ numbered_after nat_eq [] (scope_uses k steps)
  pub files_are : files ≡ numbered_after nat_eq [] (file_uses k scopes)
  pub texts_are : texts ≡ numbered_after nat_eq [] (name_uses k places scopes ++ path_uses k places files)

-- the head of a table
unfoldable pub head_of : ℕ → ℕ → ℕ → ℕ → ℕ → ℕ → List ℕ
head_of steps step_bytes scopes files texts bytes =
    to_be_bytes w64 1 ++ (to_be_bytes w64 steps ++ (to_be_bytes w64 step_bytes ++ (to_be_bytes w64 scopes
    ++ (to_be_bytes w64 files ++ (to_be_bytes w64 texts ++ to_be_bytes w64 bytes)))))

-- the bytes of a table, where strings have `before` bytes
unfoldable pub text_of_parts : KeptRecord → ℕ → List Step → List ℕ → List ℕ → List ℕ → List ℕ → List ℕ
text_of_parts k before steps places scopes files texts =
    head_of (length steps) (length (bytes_of (groups_by k scopes steps))) (length scopes) (length files) (length texts)
    (length (concat (texts_at k texts)))
    ++ (group_rows 0 (groups_by k scopes steps)
    ++ (bytes_of (groups_by k scopes steps)
    ++ (scope_rows k scopes files (text_number before places texts) scopes
    ++ (file_rows k (text_number before places texts) files
    ++ (text_rows 0 (texts_at k texts)
    ++ concat (texts_at k texts))))))

-- the bytes of the table of steps with these parts
abbrev pub text_by : KeptRecord → List Step → Parts → List ℕ
text_by k steps parts =
    text_of_parts k parts.texts.before steps parts.texts.places.items parts.scopes.order.items parts.files.order.items
    parts.texts.uses.order.items

-- the bytes of the table of steps, if it fits into `room` bytes
abbrev pub IsTextIfFits : ℕ → List ℕ → List StepRecord → Option (List ℕ) → Type 0
IsTextIfFits room strings steps None = FitsLines room strings steps → ⊥
IsTextIfFits room strings steps (Some bytes) = FitsLines room strings steps × (bytes ≡ line_text strings steps)
