-- The reports of commands.
use Rattle.std.specs.Prelude.{List, ℕ, Bool, [], ◌∷◌, ◌++◌, if◌then◌else◌, codes}
use Rattle.std.specs.List.{flat_map}
use Rattle.std.specs.Fmt.{decimal}
use Rattle.archive_core.specs.declared.keys.SliceKey.{SliceKey}
use Rattle.archive_core.specs.declared.keys.Digest.{Digest}
use Rattle.archive_records.specs.declared.writing.Sizes.{Sizes}
use Rattle.text_values.specs.Words.{digest_text}
use Rattle.text_reports.specs.Rows.{admit_row_text, key_text, sizes_text}
use Rattle.text_reports.specs.declared.rows.AdmitRow.{AdmitRow}

-- a text and a newline byte
abbrev pub line : List ℕ → List ℕ
line text = text ++ 10 ∷ []

-- a line for each slice
abbrev pub admit_lines : List AdmitRow → List ℕ
admit_lines rows = flat_map (λ row. line (admit_row_text row)) rows

-- a retirement, and whether it is new
abbrev pub retire_line : Bool → SliceKey → Digest → List ℕ
retire_line changed key digest =
    line ((if changed then codes "retired" else codes "known") ++ codes " " ++ key_text key ++ codes " "
    ++ digest_text digest)

-- the numbers of records of an operations file that were new, and that were known: present, or covered by a retirement
abbrev pub apply_line : ℕ → ℕ → List ℕ
apply_line new known = line (codes "applied: " ++ decimal new ++ codes " new, " ++ decimal known ++ codes " known")

-- the numbers of a summary's entries and bytes that were written
abbrev pub summary_line : Sizes → List ℕ
summary_line sizes = line (codes "summary: " ++ decimal sizes.records ++ codes " entries, " ++ decimal sizes.bytes
    ++ codes " bytes")

-- the last line of every command that writes an archive
abbrev pub archive_line : Sizes → List ℕ
archive_line sizes = line (sizes_text sizes)
