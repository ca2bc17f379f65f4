-- The lines of `find` and of `list`.
use Rattle.std.specs.Prelude.{ℕ, List, [], ◌∷◌, ◌++◌, nat_lt, if◌then◌else◌, codes}
use Rattle.std.specs.List.{flat_map}
use Rattle.std.specs.Fmt.{decimal}
use Rattle.archive_core.specs.Find.{answering_count}
use Rattle.archive_core.specs.Find.{is_key}
use Rattle.archive_core.specs.declared.keys.SliceKey.{SliceKey}
use Rattle.archive_core.specs.declared.find.FindRow.{FindRow}
use Rattle.archive_core.specs.declared.find.FindState.{FindState}
use Rattle.archive_core.specs.declared.find.FindState.TheVariants.{Retired, Image, Dsym}
use Rattle.text_values.specs.Words.{arch_text, digest_text}
use Rattle.text_reports.specs.Report.{line}
use Rattle.text_reports.specs.Rows.{key_text}
use Rattle.text_reports.specs.declared.finds.KeyForm.{KeyForm}
use Rattle.text_reports.specs.declared.finds.KeyForm.TheVariants.{Arch, Whole}

-- the text of a row's state
unfoldable pub find_state_text : FindState → List ℕ
find_state_text Retired = codes "retired"
find_state_text Image = codes "image"
find_state_text Dsym = codes "dsym"

-- the text of a key in a line: in the lines of one UUID its architecture, otherwise the whole key
abbrev pub key_form_text : KeyForm → SliceKey → List ℕ
key_form_text Arch key = arch_text key.arch
key_form_text Whole key = key_text key

-- the text of a row
unfoldable pub find_row_text : KeyForm → FindRow → List ℕ
find_row_text form row = key_form_text form row.key ++ codes " " ++ find_state_text row.state ++ codes " "
    ++ digest_text row.digest

-- adjacent rows with one key
pub record Group : Type 0 where
  pub key : SliceKey
  pub rows : List FindRow

-- a row before groups: it becomes the first of the first group if that has its key, otherwise a group of its own
abbrev pub with_row : FindRow → List Group → List Group
with_row row [] = record { key = row.key; rows = row ∷ [] } ∷ []
with_row row (group ∷ groups) =
    if is_key group.key row.key then record { key = row.key; rows = row ∷ group.rows } ∷ groups
    else record { key = row.key; rows = row ∷ [] } ∷ (group ∷ groups)

-- the groups of rows, in their order
unfoldable pub groups : List FindRow → List Group
groups [] = []
groups (row ∷ rows) = with_row row (groups rows)

-- the line with the number of slices that answer, if there are several
unfoldable pub conflict_line : KeyForm → SliceKey → ℕ → List ℕ
conflict_line form key count =
    if nat_lt count 2 then [] else line (key_form_text form key ++ codes " conflict " ++ decimal count)

-- a line for each row, and after them the conflict
unfoldable pub group_lines : KeyForm → Group → List ℕ
group_lines form group = flat_map (λ row. line (find_row_text form row)) group.rows
    ++ conflict_line form group.key (answering_count group.rows group.key.arch)

-- the lines of the groups
unfoldable pub groups_lines : KeyForm → List FindRow → List ℕ
groups_lines form rows = flat_map (group_lines form) (groups rows)

-- the lines of `find`, all of one UUID
abbrev pub find_lines : List FindRow → List ℕ
find_lines rows = groups_lines Arch rows

-- the lines of `list`
abbrev pub list_lines : List FindRow → List ℕ
list_lines rows = groups_lines Whole rows
