-- The text of a note, which a command that succeeded adds about a requested record or name that is not there.
use Rattle.std.specs.Prelude.{ℕ, List, ◌++◌, codes}
use Rattle.text_values.specs.Words.{digest_text}
use Rattle.text_reports.specs.Escapes.{escaped}
use Rattle.text_reports.specs.Rows.{key_text}
use Rattle.command_common.specs.declared.notes.Note.{Note}
use Rattle.command_common.specs.declared.notes.Note.TheVariants.{Retired, Missing, Underscored}

-- the text of a note
unfoldable pub note_text : Note → List ℕ
note_text (Retired key digest) = codes "note: " ++ key_text key ++ codes " " ++ digest_text digest
    ++ codes " is retired in IN, and does not come in"
note_text (Missing key digest) = codes "note: IN has no slice " ++ key_text key ++ codes " " ++ digest_text digest
note_text (Underscored name) = codes "note: there is no symbol " ++ escaped name.items ++ codes ", but there is _"
    ++ escaped name.items
