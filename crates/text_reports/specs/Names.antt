-- The lines of `name`.
use Rattle.std.specs.Prelude.{ℕ, List, ◌++◌, codes}
use Rattle.std.specs.List.{flat_map}
use Rattle.archive_core.specs.Names.{NameRecord}
use Rattle.text_values.specs.Words.{address_text, digest_text}
use Rattle.text_reports.specs.Escapes.{escaped}
use Rattle.text_reports.specs.Report.{line}
use Rattle.text_reports.specs.Rows.{key_text}

-- a symbol: its slice, its address, and its section
unfoldable pub name_row_text : NameRecord → List ℕ
name_row_text row =
    key_text row.key ++ codes " " ++ digest_text (record { 0 = row.digest }) ++ codes " " ++ address_text row.address
    ++ codes " (" ++ escaped row.segment ++ codes "," ++ escaped row.section ++ codes ")"

-- a line for each row
abbrev pub name_lines : List NameRecord → List ℕ
name_lines rows = flat_map (λ row. line (name_row_text row)) rows
