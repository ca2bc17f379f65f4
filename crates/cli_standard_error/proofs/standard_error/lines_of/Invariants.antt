use Rattle.std.proofs.Common.{◌≡◌, take, string_bytes}
use Rattle.cli_standard_error.specs.StandardError.{note_lines}
use Rattle.cli_standard_error.proofs.standard_error.lines_of.Given as goal

abbrev pub invariant-notes : goal.invariant-notes
invariant-notes l = string_bytes l.lines ≡ note_lines (take l.note-index l.notes)
