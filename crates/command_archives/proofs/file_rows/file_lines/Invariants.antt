use Rattle.std.proofs.Common.{◌≡◌, take, string_bytes}
use Rattle.command_archives.specs.FileRows.{file_lines}
use Rattle.command_archives.proofs.file_rows.file_lines.Given as goal

abbrev pub invariant-rows : goal.invariant-rows
invariant-rows l = string_bytes l.text ≡ file_lines (take l.row-index l.rows)
