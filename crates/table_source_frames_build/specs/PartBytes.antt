-- The bytes of the parts of a table, by numbers. No contract of a public function uses these definitions.
use Rattle.std.specs.Prelude.{ℕ, zero, suc, List, ◌+◌, ◌++◌, ◌≡◌, ◌<◌, ◌^◌, flat_map, length}
use Rattle.std.specs.Prelude.{map, nat_eq, slice_index}
use Rattle.std.specs.Int.{w32, to_be_bytes}
use Rattle.table_checked_pages.specs.Groups.{GroupRecord}
use Rattle.table_source_frames.specs.Numbering.{number_in}
use Rattle.table_source_frames.specs.StepGroups.{StepNumbers, step_groups}
use Rattle.table_source_frames_build.specs.Kept.{KeptRecord, file_key_at, location_key_at, scope_key_at, text_at}
use Rattle.table_source_frames_build.specs.declared.keys.FileKey.{FileKey}
use Rattle.table_source_frames_build.specs.declared.keys.ScopeKey.{ScopeKey}
use Rattle.table_source_frames_build.specs.declared.parts.Parts.{Parts}
use Rattle.table_source_frames_build.specs.declared.step.Step.{Step}

-- 1 and the place of a text among the strings; 0 of 0, or if it has none
abbrev pub place_in : List ℕ → ℕ → ℕ
place_in places zero = 0
place_in places (suc index) = slice_index places index

-- the place of a text, or else its number among the others, which come after `before` numbers; 0 if it has neither
abbrev pub after_place : ℕ → ℕ → ℕ → ℕ
after_place before zero zero = 0
after_place before zero (suc other) = before + suc other
after_place before (suc place) other = suc place

-- the new number of a text
abbrev pub text_number : ℕ → List ℕ → List ℕ → ℕ → ℕ
text_number before places texts number = after_place before (place_in places number) (number_in nat_eq texts number)

-- the numbers of a step: its start, the new number of its scope, its line and column
abbrev pub step_numbers : KeptRecord → List ℕ → Step → StepNumbers
step_numbers k scopes step =
    record {
      start = step.start;
      scope = number_in nat_eq scopes (location_key_at k step.location).scope;
      line = (location_key_at k step.location).line;
      column = (location_key_at k step.location).column;
    }

-- the groups of steps
abbrev pub groups_by : KeptRecord → List ℕ → List Step → List GroupRecord
groups_by k scopes steps = step_groups (map (step_numbers k scopes) steps)

-- a scope: the new numbers of its name and of its file; the line and column of the location that it is inlined into,
-- and the new number of the scope of that
unfoldable pub scope_row : KeptRecord → List ℕ → List ℕ → (ℕ → ℕ) → ScopeKey → List ℕ
scope_row k scopes files text key =
    to_be_bytes w32 (text key.name)
    ++ (to_be_bytes w32 (number_in nat_eq files key.file)
    ++ (to_be_bytes w32 (location_key_at k key.caller).line ++ (to_be_bytes w32 (location_key_at k key.caller).column
    ++ to_be_bytes w32 (number_in nat_eq scopes (location_key_at k key.caller).scope))))

-- a file: the new numbers of the texts of its path
unfoldable pub file_row : (ℕ → ℕ) → FileKey → List ℕ
file_row text key =
    to_be_bytes w32 (text key.base) ++ (to_be_bytes w32 (text key.directory) ++ to_be_bytes w32 (text key.name))

-- the texts with these numbers
abbrev pub texts_at : KeptRecord → List ℕ → List (List ℕ)
texts_at k texts = map (text_at k) texts

-- the rows of scopes, and of files
abbrev pub scope_rows : KeptRecord → List ℕ → List ℕ → (ℕ → ℕ) → List ℕ → List ℕ
scope_rows k scopes files text numbers = flat_map (λ n. scope_row k scopes files text (scope_key_at k n)) numbers

abbrev pub file_rows : KeptRecord → (ℕ → ℕ) → List ℕ → List ℕ
file_rows k text numbers = flat_map (λ n. file_row text (file_key_at k n)) numbers

-- the parts have one place for each kept text, file and scope
pub record AreCounts (k : KeptRecord) (parts : Parts) : Type 0 where
  pub scopes : length parts.scopes.given.items ≡ length k.scopes
  pub files : length parts.files.given.items ≡ length k.files
  pub texts : length parts.texts.uses.given.items ≡ length k.texts
  pub places : length parts.texts.places.items ≡ length k.texts

-- the new numbers of texts
abbrev pub text_numbers : Parts → ℕ → ℕ
text_numbers parts number = text_number parts.texts.before parts.texts.places.items parts.texts.uses.order.items number

-- each number of a text fits into four bytes
abbrev pub HaveNumbers : Parts → Type 0
HaveNumbers parts = parts.texts.before + length parts.texts.uses.order.items < 2 ^ 32
