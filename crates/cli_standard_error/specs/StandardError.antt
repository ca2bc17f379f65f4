-- The lines on standard error.
use Rattle.std.specs.Prelude.{◌≡◌, ◌⊎◌, ℕ, Bool, true, false, ◌==◌, List, [], ◌∷◌, ◌++◌, codes, drop}
use Rattle.std.specs.Prelude.{if◌then◌else◌, nat_eq, Option, Some, Result, Ok, Err}
use Rattle.std.specs.List.{flat_map, list_any, starts_with}
use Rattle.clap.specs.Words.{Text}
use Rattle.cli_arguments.specs.{Lines.Line, Shown.shown, Shown.without_line_feed}
use Rattle.text_reports.specs.Report.{line}
use Rattle.command_common.specs.declared.{failures.Failure.Failure, faults.Status.Status}
use Rattle.command_common.specs.{FaultTexts.failure_text, Outputs.FailsBehind, Outputs.Takes, Outputs.Writer}
use Rattle.command_common.specs.{Notes.note_text, declared.notes.Note.Note}
use Rattle.cli_standard_error.specs.Hints.{file_of, subject_of}

-- the line for lack of memory
abbrev pub wanting_text : List ℕ
wanting_text = codes "symarch: out of memory"

-- The writer accepted these bytes; or it failed before their end.
abbrev pub IsPushed : Writer → List ℕ → Bool → Type 0
IsPushed standard_error bytes true = Takes standard_error bytes
IsPushed standard_error bytes false = (n : ℕ) × FailsBehind standard_error bytes n

-- the line for lack of memory was printed
abbrev pub SaysWanting : Writer → Bool → Type 0
SaysWanting standard_error whole = IsPushed standard_error (line wanting_text) whole

-- The line was printed to its end; or the writer failed before its end, or there was no memory for it and the line for
-- lack of memory was printed instead.
abbrev pub SaysLine : Writer → List ℕ → Bool → Type 0
SaysLine standard_error text true = Takes standard_error (line text)
SaysLine standard_error text false =
    ((n : ℕ) × FailsBehind standard_error (line text) n)
    ⊎ ((whole : Bool) × SaysWanting standard_error whole)

-- ---- the second line

-- a text has a line feed
abbrev pub has_line_feed : List ℕ → Bool
has_line_feed text = list_any (λ byte. byte == 10) text

-- The second line for the failure of a command line: two spaces, the text for the file of the failure, its path as it
-- is printed, and then any text. It is one line.
pub record IsHelp (asked : Line) (failure : Failure) (help : List ℕ) : Type 0 where
  pub path : Text
  pub path_is : Some path ≡ file_of asked failure
  pub shown_feedless : has_line_feed (shown path) ≡ false
  pub free : List ℕ
  pub free_feedless : has_line_feed free ≡ false
  pub help_is : help ≡ line (codes "  " ++ subject_of failure ++ codes " is " ++ shown path ++ free)

-- After the line of a failure: nothing, or its second line, or the beginning of that if the writer failed.
abbrev pub SaysHelp : Writer → Line → Failure → Type 0
SaysHelp standard_error asked failure =
    Takes standard_error []
    ⊎ ((help : List ℕ) × IsHelp asked failure help × (whole : Bool) × IsPushed standard_error help whole)

-- The writer accepted the line of a failure, and then its second line; or it failed before the end of the first; or
-- there was no memory for that line, and only the line for lack of memory was printed.
abbrev pub SaysFailure : Writer → Line → Failure → Type 0
SaysFailure standard_error asked failure =
    ((between : Option (List ℕ)) × (failures : ℕ)
    × Takes (record standard_error { new = between; failures_new = failures }) (line (failure_text failure))
    × SaysHelp (record standard_error { old = between; failures_old = failures }) asked failure)
    ⊎ SaysLine standard_error (failure_text failure) false

-- One line states why the report failed.
abbrev pub SaysReport : Writer → Type 0
SaysReport standard_error =
    (free : List ℕ) × (has_line_feed free ≡ false)
    × (whole : Bool) × IsPushed standard_error (line (codes "  report is standard output" ++ free)) whole

-- ---- notes

-- one line for each note
abbrev pub note_lines : List Note → List ℕ
note_lines notes = flat_map (λ note. line (note_text note)) notes

-- the line that is printed if there is no memory for the lines of the notes
abbrev pub unnoted_text : List ℕ
unnoted_text = codes "note: out of memory"

-- The writer accepted the lines of all notes, or failed before their end; or there was no memory for them, and the line
-- for that was printed instead. Without a note it accepted nothing.
abbrev pub SaysNotes : Writer → List Note → Type 0
SaysNotes standard_error [] = Takes standard_error []
SaysNotes standard_error (note ∷ notes) =
    ((whole : Bool) × IsPushed standard_error (note_lines (note ∷ notes)) whole)
    ⊎ ((whole : Bool) × IsPushed standard_error (line unnoted_text) whole)

-- the messages after a command with this line and result: its notes, or why it failed
abbrev pub SaysEnd : Writer → Line → Result Status Failure → List Note → Type 0
SaysEnd standard_error asked (Ok _) notes = SaysNotes standard_error notes
SaysEnd standard_error asked (Err failure) notes = SaysFailure standard_error asked failure

-- a text without the word `error: ` at its start
abbrev pub after_error : Text → Text
after_error text = if starts_with nat_eq text (codes "error: ") then drop 7 text else text

-- the reason in the text of a refused line, which begins with `error: ` and ends with a line feed
abbrev pub reason_in : Text → Text
reason_in text = after_error (without_line_feed text)

-- The reason for which words are refused is printed.
abbrev pub SaysRefused : Writer → Text → Type 0
SaysRefused standard_error reason = (whole : Bool) × SaysLine standard_error (codes "symarch: " ++ reason) whole
