-- The lines of `admit`: one for each part of a file that is accepted, and one for each file that is passed over.
use Rattle.std.specs.Prelude.{ℕ, List, ◌++◌, codes}
use Rattle.std.specs.Fmt.{decimal}
use Rattle.std.specs.List.{flat_map}
use Rattle.text_reports.specs.Report.{line}
use Rattle.text_reports.specs.Rows.{admit_row_text}
use Rattle.command_common.specs.FaultTexts.{why_text}
use Rattle.command_archives.specs.declared.file_rows.FileRow.{FileRow}
use Rattle.command_archives.specs.declared.file_rows.FileRow.TheVariants.{Part, PassedOver}

unfoldable pub file_row_text : FileRow → List ℕ
file_row_text (Part row) = admit_row_text row
file_row_text (PassedOver file why) = codes "file " ++ decimal file ++ codes " refused " ++ why_text why

-- the lines of rows, in order
abbrev pub file_lines : List FileRow → List ℕ
file_lines rows = flat_map (λ row. line (file_row_text row)) rows
