-- The file of a failure, and the line in it.
use Rattle.std.specs.Prelude.{ℕ, List, [], ◌++◌, ◌==◌, codes, if◌then◌else◌, Option, Some, None, option_map}
use Rattle.std.specs.Prelude.{Result, Ok, Err, ⊤}
use Rattle.std.specs.Fmt.{decimal}
use Rattle.clap.specs.Words.{Text}
use Rattle.command_common.specs.{declared.failures.Failure.Failure, FaultTexts.name_text}
use Rattle.command_common.specs.declared.failures.Failure.TheVariants.{Command, CannotCreate, CannotReplace}
use Rattle.command_common.specs.declared.faults.CommandFault.TheVariants.{Input, Output, Report, OutOfMemory}
use Rattle.command_common.specs.declared.faults.{CommandFault.CommandFault, Status.Status, Why.Why}
use Rattle.command_common.specs.declared.faults.Why.TheVariants.{CannotOpen, Device, Record, Take}
use Rattle.command_common.specs.declared.faults.Why.TheVariants.{Script as ScriptFaulty, BadFrame, OldArchive, TooLong}
use Rattle.command_common.specs.declared.faults.Why.TheVariants.{Index as IndexFaulty, Damaged, NoArchive, NoIndex}
use Rattle.command_common.specs.declared.faults.Why.TheVariants.{NoLines, Stale}
use Rattle.cli_arguments.specs.Lines.{Line, out_of}
use Rattle.cli_standard_error.specs.Names.{path_at}
use Rattle.cli_standard_error.specs.declared.{flaws.FaultyLine.FaultyLine, hints.Hint.Hint, hints.Subject.Subject}
use Rattle.cli_standard_error.specs.declared.flaws.Flaw.TheVariants as flaw
use Rattle.cli_standard_error.specs.declared.hints.Hint.TheVariants as hint
use Rattle.cli_standard_error.specs.declared.hints.Subject.TheVariants as subject
use Rattle.cli_arguments.specs.LineFaults.{form_words}
use Rattle.cli_arguments.specs.declared.commands.Form.TheVariants as form
use Rattle.cli_standard_error.specs.declared.file_kinds.FileKind.{FileKind}
use Rattle.cli_standard_error.specs.declared.file_kinds.FileKind.TheVariants as kind
use Rattle.cli_standard_error.specs.declared.flaws.Flaw.{Flaw}
use Rattle.text_input_files.specs.declared.frame_flaws.FrameFlaw.{FrameFlaw}
use Rattle.text_input_files.specs.declared.frame_flaws.FrameFlaw.TheVariants as frame
use Rattle.text_input_files.specs.declared.numbers.NumberFlaw.{NumberFlaw}
use Rattle.text_input_files.specs.declared.numbers.NumberFlaw.TheVariants.{NotDecimal, LeadingZeros, TooLarge}
use Rattle.text_input_files.specs.declared.script_flaws.ScriptFlaw.{ScriptFlaw}
use Rattle.text_input_files.specs.declared.script_flaws.ScriptFlaw.TheVariants as script
use Rattle.text_values.specs.declared.flaws.LineFlaw.{LineFlaw}
use Rattle.text_values.specs.declared.flaws.LineFlaw.TheVariants as any_line

-- the path of the file of a failure
abbrev pub file_of : Line → Failure → Option Text
file_of line (Command (Input name why)) = path_at line name
file_of line (Command (Output n)) = out_of line
file_of line (Command (Report n)) = None
file_of line (Command OutOfMemory) = None
file_of line (CannotCreate _) = out_of line
file_of line CannotReplace = out_of line

-- the text for the file of a failure
abbrev pub subject_of : Failure → List ℕ
subject_of (Command (Input name why)) = name_text name
subject_of (Command (Output n)) = codes "output"
subject_of (Command (Report n)) = codes "report"
subject_of (Command OutOfMemory) = []
subject_of (CannotCreate _) = codes "output"
subject_of CannotReplace = codes "output"

abbrev pub subject_text : Subject → List ℕ
subject_text (subject.Input name) = name_text name
subject_text subject.Output = codes "output"

-- the hint for an index that is refused as stale: make it again; or, if the archive has the length stated in the index,
-- first find out what changed in the archive
abbrev pub stale_hint : Option ℕ → Hint
stale_hint None = hint.StaleIndex
stale_hint (Some entry) = hint.StaleEntry

-- the line for which an input is refused, with its flaw, if more is known of it
abbrev pub faulty_line : Why → Option FaultyLine
faulty_line CannotOpen = None
faulty_line Device = None
faulty_line (Record _) = None
faulty_line (Take _) = None
faulty_line (ScriptFaulty _ number found) =
    option_map (λ f. record { line = number; flaw = flaw.Script f }) found
faulty_line (BadFrame number found) = Some (record { line = number; flaw = flaw.Frame found })
faulty_line OldArchive = None
faulty_line TooLong = None
faulty_line (IndexFaulty _) = None
faulty_line (Stale _) = None
faulty_line (Damaged _) = None
faulty_line (NoLines _) = None
faulty_line NoArchive = None
faulty_line NoIndex = None

-- the same for a failure
abbrev pub faulty_line_of : Failure → Option FaultyLine
faulty_line_of (Command (Input name why)) = faulty_line why
faulty_line_of (Command (Output n)) = None
faulty_line_of (Command (Report n)) = None
faulty_line_of (Command OutOfMemory) = None
faulty_line_of (CannotCreate _) = None
faulty_line_of CannotReplace = None

-- The result is not a fault of an input or of OUT.
abbrev pub IsOfNoFile : Result Status CommandFault → Type 0
IsOfNoFile (Ok _) = ⊤
IsOfNoFile (Err (Input name why)) = ⊥
IsOfNoFile (Err (Output n)) = ⊥
IsOfNoFile (Err (Report n)) = ⊤
IsOfNoFile (Err OutOfMemory) = ⊤

-- The result is a fault of OUT.
abbrev pub IsOfOut : Result Status CommandFault → Type 0
IsOfOut (Ok _) = ⊥
IsOfOut (Err (Input name why)) = ⊥
IsOfOut (Err (Output n)) = ⊤
IsOfOut (Err (Report n)) = ⊥
IsOfOut (Err OutOfMemory) = ⊥

-- the text for a number in a script that has this flaw; `most` is the greatest valid number
unfoldable pub number_flaw_text : NumberFlaw → ℕ → List ℕ
number_flaw_text NotDecimal most = codes "expected a decimal number, at most " ++ decimal most
number_flaw_text LeadingZeros most = codes "expected no leading zeros"
number_flaw_text TooLarge most = codes "too large, expected at most " ++ decimal most

-- the text for the flaw of a line, for any fields
abbrev pub line_flaw_text : LineFlaw → List ℕ
line_flaw_text any_line.ByteOrderMark = codes "begins with a byte-order mark"
line_flaw_text any_line.Tab = codes "has a tab"
line_flaw_text any_line.CarriageReturn = codes "has a carriage return"
line_flaw_text any_line.NotText = codes "is not UTF-8"
line_flaw_text any_line.Spaces = codes "has two spaces together, or one at an end"

-- the text for a field with a wrong form
unfoldable pub invalid_text : List ℕ → List ℕ → List ℕ
invalid_text field expected = codes "has an invalid " ++ field ++ codes ": " ++ expected

-- the text for the flaw of a line of FRAMES
unfoldable pub frame_flaw_text : FrameFlaw → List ℕ
frame_flaw_text (frame.Line found) = line_flaw_text found
frame_flaw_text frame.FieldCount = codes "has not the four fields UUID ARCH LOAD ADDRESS"
frame_flaw_text frame.Uuid = invalid_text (codes "UUID") (codes "expected " ++ form_words form.Uuid)
frame_flaw_text frame.Arch = invalid_text (codes "ARCH") (codes "expected " ++ form_words form.Arch)
frame_flaw_text frame.Load = invalid_text (codes "LOAD") (codes "expected - or " ++ form_words form.Number)
frame_flaw_text frame.Address = invalid_text (codes "ADDRESS") (codes "expected " ++ form_words form.Number)

-- the text for the flaw of a line of SCRIPT
unfoldable pub script_flaw_text : ScriptFlaw → List ℕ
script_flaw_text (script.Line found) = line_flaw_text found
script_flaw_text script.Sites = codes "is not `sites N`, N from 1 to 64"
script_flaw_text script.Word = codes "begins with no word of an event"
script_flaw_text script.FieldCount = codes "has fewer or more fields than its event"
script_flaw_text (script.SiteCount found) = invalid_text (codes "N") (number_flaw_text found 64)
script_flaw_text (script.Site found) = invalid_text (codes "SITE") (number_flaw_text found 4294967295)
script_flaw_text script.Bytes = invalid_text (codes "BYTES") (codes "expected pairs of hex digits")
script_flaw_text (script.Message found) = invalid_text (codes "MESSAGE") (number_flaw_text found 4294967295)
script_flaw_text script.Uuid = invalid_text (codes "UUID") (codes "expected " ++ form_words form.Uuid)
script_flaw_text script.Arch = invalid_text (codes "ARCH") (codes "expected " ++ form_words form.Arch)
script_flaw_text script.Digest = invalid_text (codes "DIGEST") (codes "expected " ++ form_words form.Digest)

abbrev pub flaw_text : Flaw → List ℕ
flaw_text (flaw.Frame found) = frame_flaw_text found
flaw_text (flaw.Script found) = script_flaw_text found

-- the text for a faulty line
unfoldable pub faulty_line_text : FaultyLine → List ℕ
faulty_line_text faulty = codes "whose line " ++ decimal faulty.line ++ codes " " ++ flaw_text faulty.flaw

-- the text for a file of this kind at OUT, if the command writes another kind
abbrev pub other_kind_text : Option FileKind → List ℕ
other_kind_text (Some kind.Archive) = codes "there, and an archive"
other_kind_text (Some kind.Operations) = codes "there, and an operations file"
other_kind_text (Some kind.Summary) = codes "there, and a summary"
other_kind_text (Some kind.Index) = codes "there, and an index"
other_kind_text (Some kind.EarlierIndex) = codes "there, and an index"
other_kind_text _ = codes "there, and neither empty nor one of symarch's files"

-- the word after this number of records
unfoldable pub records_word : ℕ → List ℕ
records_word count = if count == 1 then codes "record" else codes "records"

-- the text for the known facts about OUT or of an input
unfoldable pub hint_text : Hint → List ℕ
hint_text hint.SameFile = codes "the file of an input"
hint_text (hint.OtherKind found) = other_kind_text found
hint_text hint.DamagedArchive = codes "there, and an archive that is damaged"
hint_text hint.Differs = codes "there, and neither empty nor the same slice"
hint_text (hint.Loses lost) =
    codes "there, and has " ++ decimal lost ++ codes " " ++ records_word lost
    ++ codes " that the new archive neither has nor retires"
hint_text hint.OldVersion = codes "an archive of version 1, which `migrate` takes"
hint_text hint.StaleIndex = codes "not of this archive, of which `index` writes a new one"
hint_text hint.DamagedIndex =
    codes "changed since it was written: run `symarch-keep check` if it keeps the archive, else `index`"
hint_text hint.NoSourceLines =
    codes "without the lines of that slice, which are too many for it: ask without `--index`"
hint_text hint.StaleEntry =
    codes "of an archive in which a slice changed since it came in: run `symarch-keep check` first"
