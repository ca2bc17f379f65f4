-- The archive and report that `admit` makes from an archive and files if it passes over refused files.
use Rattle.std.specs.Prelude.{◌≡◌, ◌≢◌, ℕ, ◌+◌, ◌<◌, Bool, true, false, List, [], ◌∷◌, ◌++◌, Result, Ok, Err, map}
use Rattle.std.specs.FinSet as set
use Rattle.std.specs.List.{AllByRecursion, AllZip, flat_map}
use Rattle.archive_core.specs.Content.{Operations, IsContent}
use Rattle.archive_image_admission.specs.File.{parts, admissible, IsAcceptedFile}
use Rattle.archive_image_admission.specs.Take.{admitted, taken_rows}
use Rattle.archive_image_admission.specs.declared.taken.Taken.{Taken}
use Rattle.byte_device.specs.Devices.{most_failures}
use Rattle.byte_lazy_inputs.specs.declared.openings.Opening.{Opening}
use Rattle.byte_lazy_inputs.specs.declared.openings.Opening.TheVariants.{Fine, Refused as NotOpened, OutOfMemory}
use Rattle.command_common.specs.declared.faults.CommandFault.{CommandFault}
use Rattle.command_common.specs.declared.faults.Status.{Status}
use Rattle.command_common.specs.declared.faults.Status.TheVariants.{Done, SomeRefused}
use Rattle.command_common.specs.declared.faults.Why.{Why}
use Rattle.command_common.specs.declared.faults.Why.TheVariants.{CannotOpen}
use Rattle.command_common.specs.Ends.{Carries, Command, EndsStreamed, MakesArchive, Streamed, writes_amidst}
use Rattle.command_common.specs.Inputs.{Reader, Holds, HoldsArchive, IsFileRefused, IsRefusedArchive, Unfailed}
use Rattle.command_common.specs.Inputs.{IsKnown}
use Rattle.command_common.specs.Outputs.{Out, Writer}
use Rattle.command_archives.specs.Admit.{admit_as_it_comes, file_rows}
use Rattle.command_archives.specs.Begun.{begins_after}
use Rattle.command_archives.specs.FileRows.{file_lines}
use Rattle.command_archives.specs.Notes.{NotesRetired, retired_notes}
use Rattle.command_archives.specs.declared.file_rows.FileRow.{FileRow}
use Rattle.command_archives.specs.declared.file_rows.FileRow.TheVariants.{Part, PassedOver}
use Rattle.command_common.specs.declared.notes.Note.{Note}

-- the outcome of a file: accepted, with these bytes, or passed over, for this reason
abbrev pub Outcome : Type 0
Outcome = Result (List ℕ) Why

-- why a refused file is passed over: it cannot be opened, or the fault of reading it
abbrev pub why_passed : Opening → Why → Why
why_passed NotOpened why = CannotOpen
why_passed Fine why = why
why_passed OutOfMemory why = why

-- The file is refused, and passed over for this reason. Memory did not run out at its opening.
pub record IsPassedOver {S : Type 0} (opening : S → Opening) (file : Reader S) (why : Why) : Type 0 where
  pub as_read : Why
  pub refused : IsFileRefused file as_read
  pub opened : opening file.new ≢ OutOfMemory
  pub why_is : why ≡ why_passed (opening file.new) as_read

-- The file has this outcome. The reader of an accepted file does not fail.
abbrev pub Becomes : {S : Type 0} → (S → Opening) → Reader S → Outcome → Type 0
Becomes opening file (Ok bytes) = IsAcceptedFile bytes × Holds file bytes × Unfailed file
Becomes opening file (Err why) = IsPassedOver opening file why

-- the images of a file: those among its parts, or none if it is passed over
abbrev pub images_by : Outcome → List (List ℕ)
images_by (Ok bytes) = admissible bytes
images_by (Err why) = []

-- the rows of the parts of the file with this number, from part number `slice` on
abbrev pub part_rows : ℕ → ℕ → List Taken → List FileRow
part_rows index slice takens = map Part (file_rows index slice takens)

-- the rows of the file with this number: one for each part, over this content, or one with the reason why it is passed
-- over
abbrev pub rows_by : Operations → ℕ → Outcome → List FileRow
rows_by o index (Ok bytes) = part_rows index 0 (taken_rows o (parts bytes))
rows_by o index (Err why) = PassedOver index why ∷ []

-- the rows of files from this number on, each over the content that includes the earlier ones
unfoldable pub rows_of : Operations → ℕ → List Outcome → List FileRow
rows_of o index [] = []
rows_of o index (outcome ∷ rest) =
    rows_by o index outcome ++ rows_of (admitted o (images_by outcome)) (index + 1) rest

-- the images of files, in order
abbrev pub images_from : List Outcome → List (List ℕ)
images_from outcomes = flat_map images_by outcomes

-- the status, by whether a file was passed over
unfoldable pub status_over : List Outcome → Status
status_over [] = Done
status_over (Ok bytes ∷ rest) = status_over rest
status_over (Err why ∷ rest) = SomeRefused

-- Each file has an outcome.
abbrev pub BecomeSome : {S : Type 0} → (S → Opening) → List (Reader S) → Type 0
BecomeSome opening files = (outcomes : List Outcome) × AllZip (Becomes opening) files outcomes

-- IN is the text of a content, and the files have outcomes; `content` adds the images of the accepted ones to it,
-- `lines` are the lines of all of them, and `status` is the status.
pub record MakesPassing {R S : Type 0} (opening : S → Opening) (input : Reader R) (files : List (Reader S))
    (status : Status) (content : Operations) (lines : List ℕ) : Type 0 where
  pub before : Operations
  pub outcomes : List Outcome
  pub is_content : IsContent before
  pub archive : HoldsArchive input before
  pub become : AllZip (Becomes opening) files outcomes
  pub content_is : content ≡ admitted before (images_from outcomes)
  pub lines_are : lines ≡ file_lines (rows_of before 0 outcomes)
  pub status_is : status ≡ status_over outcomes

-- The file's bytes are known, and so is each failure of its reader: their count is below its maximum.
abbrev pub IsCounted : {S : Type 0} → Reader S → Type 0
IsCounted file = IsKnown file × (file.failures file.old < most_failures)

-- The same holds for each of these files.
abbrev pub EachCounted : {S : Type 0} → List (Reader S) → Type 0
EachCounted files = AllByRecursion IsCounted files

-- `admit` over these inputs, passing over refused files, with any status
abbrev pub admit_passing : {R S : Type 0} → (S → Opening) → Reader R → List (Reader S) → Command
admit_passing opening input files = record {
  Makes = MakesArchive (λ content lines. (status : Status) × MakesPassing opening input files status content lines);
  Refuses = IsRefusedArchive 0 input;
  Unfailed = Unfailed input;
}

-- A command that passes over inputs: the text and lines that it makes with a status, and its result with any status.
pub record Passing : Type 1 where
  pub Makes : Status → List ℕ → List ℕ → Type 0
  pub streamed : Streamed

-- The result of such a command: as for one that writes while it reads, and on success the status of what it made.
abbrev pub EndsPassing : Passing → Out → Writer → Result Status CommandFault → Type 0
EndsPassing command out report (Ok status) =
    command.streamed.Unfailed × Carries (command.Makes status) out report (Ok Done)
EndsPassing command out report (Err fault) = EndsStreamed command.streamed out report (Err fault)

-- `admit` that passes over files, while IN is read; the files are read before IN
abbrev pub admit_passing_as_it_comes : {R S : Type 0} → (S → Opening) → Reader R → List (Reader S) → Writer → Passing
admit_passing_as_it_comes opening input files draft = record {
  Makes = λ status. MakesArchive (MakesPassing opening input files status);
  streamed = begins_after input (BecomeSome opening files) (λ given. admit_passing opening given files)
      (EachCounted files) draft
      (writes_amidst (admit_passing opening input files) (IsKnown input × EachCounted files) draft);
}

-- The result of `admit`: it passes over the refused files, or it fails for the first of them.
abbrev pub EndsAdmit : {R S : Type 0} → Bool → (S → Opening) → Reader R → List (Reader S) → Out → Writer
    → Result Status CommandFault → Type 0
EndsAdmit false opening input files out report result =
    EndsStreamed (admit_as_it_comes input files out.draft) out report result
EndsAdmit true opening input files out report result =
    EndsPassing (admit_passing_as_it_comes opening input files out.draft) out report result

-- The notes of `admit` that passes over files: IN is the text of a content, and the files have outcomes; one note is
-- added for each slice of the accepted ones that the content retires.
pub record NotesRetiredPassing {R S : Type 0} (opening : S → Opening) (input : Reader R) (files : List (Reader S))
    (old new : List Note) : Type 0 where
  pub before : Operations
  pub outcomes : List Outcome
  pub is_content : IsContent before
  pub archive : HoldsArchive input before
  pub become : AllZip (Becomes opening) files outcomes
  pub added : new ≡ old ++ retired_notes before (admitted set.empty (images_from outcomes))

-- The notes of `admit`.
abbrev pub NotesAdmit : {R S : Type 0} → Bool → (S → Opening) → Reader R → List (Reader S) → List Note → List Note
    → Type 0
NotesAdmit false opening input files old new = NotesRetired input files old new
NotesAdmit true opening input files old new = NotesRetiredPassing opening input files old new
