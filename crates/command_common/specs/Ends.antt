-- The results of commands.
use Rattle.std.specs.Prelude.{◌≡◌, ℕ, List, [], length, Result, Ok, Err, ◌⊎◌}
use Rattle.std.specs.Io.KnownBytes.{Appends}
use Rattle.byte_device.specs.Devices.{FailedIn}
use Rattle.byte_device.specs.Writes.{WritesFirst}
use Rattle.archive_core.specs.Content.{Operations}
use Rattle.archive_records.specs.Text.{written}
use Rattle.command_common.specs.declared.faults.CommandFault.{CommandFault}
use Rattle.command_common.specs.declared.faults.CommandFault.TheVariants.{Input, Output, Report, OutOfMemory}
use Rattle.command_common.specs.declared.faults.InputName.{InputName}
use Rattle.command_common.specs.declared.faults.Status.{Status}
use Rattle.command_common.specs.declared.faults.Why.{Why}
use Rattle.command_common.specs.Outputs.{Out, Writer, IsKept, PublishesNothing, Takes, Publishes, Reports, report_of}

-- A command that writes OUT, with its inputs: the text of OUT and of the report for accepted inputs, which input is
-- refused and why, and that no reader fails.
pub record Command : Type 1 where
  pub Makes : List ℕ → List ℕ → Type 0
  pub Refuses : InputName → Why → Type 0
  pub Unfailed : Type 0

-- `text` is the text of the content that inputs make; `told` is the report: their lines, and the sizes.
pub record MakesArchive (Makes : Operations → List ℕ → Type 0) (text told : List ℕ) : Type 0 where
  pub content : Operations
  pub lines : List ℕ
  pub makes : Makes content lines
  pub text_is : text ≡ written content
  pub told_is : told ≡ report_of content lines

-- two commands make the same: one OUT and one report
abbrev pub MakeOne : (List ℕ → List ℕ → Type 0) → (List ℕ → List ℕ → Type 0) → Type 0
MakeOne Makes Others = (text told other other_told : List ℕ) → Makes text told → Others other other_told
    → (text ≡ other) × (told ≡ other_told)

-- The inputs are accepted, and the texts that they make are published and reported.
pub record Carries (Makes : List ℕ → List ℕ → Type 0) (out : Out) (report : Writer)
    (result : Result Status CommandFault) : Type 0 where
  pub text : List ℕ
  pub told : List ℕ
  pub makes : Makes text told
  pub published : Publishes out report text told result

-- The result of a command. An input is refused, and OUT is kept; or the inputs are accepted, OUT is published and the
-- report written, or writing stopped where a writer failed. If OUT failed or memory ran out, nothing is published. If
-- no input is refused, no reader fails.
abbrev pub Ends : Command → Out → Writer → Result Status CommandFault → Type 0
Ends command out report (Ok status) = command.Unfailed × Carries command.Makes out report (Ok status)
Ends command out report (Err (Input name why)) = command.Refuses name why × IsKept out × Takes report []
Ends command out report (Err (Output n)) = command.Unfailed × Carries command.Makes out report (Err (Output n))
Ends command out report (Err (Report n)) = command.Unfailed × Carries command.Makes out report (Err (Report n))
Ends command out report (Err OutOfMemory) =
    command.Unfailed × ((IsKept out × Takes report []) ⊎ Carries command.Makes out report (Err OutOfMemory))

-- ---- commands that write while they read

-- A command that writes OUT's draft while it still reads its inputs: the text of OUT and of the report for accepted
-- inputs; the facts about its inputs and the draft if a fault stopped it before the text was complete; and that no
-- reader fails.
pub record Streamed : Type 1 where
  pub Makes : List ℕ → List ℕ → Type 0
  pub Stops : CommandFault → Type 0
  pub Unfailed : Type 0

-- The command was stopped by this fault. OUT's draft has some bytes, whose number is reported if the draft failed;
-- nothing is published, and nothing was reported.
pub record IsStopped (command : Streamed) (out : Out) (report : Writer) (fault : CommandFault) : Type 0 where
  pub stops : command.Stops fault
  pub bytes : List ℕ
  pub took : Appends out.draft.old out.draft.new bytes
  pub count : (n : ℕ) → fault ≡ Output n → n ≡ length bytes
  pub nothing_published : PublishesNothing out
  pub unreported : Takes report []

-- The result of a command that writes while it reads. It was stopped; or its inputs are accepted, and the texts that
-- they make are published and reported. A refused input stops it, and a report that fails does not.
abbrev pub EndsStreamed : Streamed → Out → Writer → Result Status CommandFault → Type 0
EndsStreamed command out report (Ok status) = command.Unfailed × Carries command.Makes out report (Ok status)
EndsStreamed command out report (Err (Input name why)) = IsStopped command out report (Input name why)
EndsStreamed command out report (Err (Output n)) =
    IsStopped command out report (Output n) ⊎ (command.Unfailed × Carries command.Makes out report (Err (Output n)))
EndsStreamed command out report (Err (Report n)) =
    command.Unfailed × Carries command.Makes out report (Err (Report n))
EndsStreamed command out report (Err OutOfMemory) =
    IsStopped command out report OutOfMemory ⊎ (command.Unfailed × Carries command.Makes out report (Err OutOfMemory))

-- If all bytes of the inputs are known, the draft has exactly the first n bytes of the text for accepted inputs, and
-- not all of them.
abbrev pub HasFirst : Command → Type 0 → Writer → ℕ → Type 0
HasFirst command Known draft n =
    Known → (text told : List ℕ) → command.Makes text told → WritesFirst draft.old draft.new text n

-- The faults that stop a command that writes throughout, if the bytes of its inputs are known under `Known`: a refused
-- input; a failure of the draft; or lack of memory, in which case no reader failed. In each case the draft has at most
-- a beginning of the text for accepted inputs.
abbrev pub StopsAmidst : Command → Type 0 → Writer → CommandFault → Type 0
StopsAmidst command Known draft (Input name why) =
    command.Refuses name why × (draft.failures_new ≡ draft.failures_old) × ((n : ℕ) × HasFirst command Known draft n)
StopsAmidst command Known draft (Output n) =
    command.Unfailed × FailedIn draft.failures_old draft.failures_new × HasFirst command Known draft n
StopsAmidst command Known draft (Report n) = ⊥
StopsAmidst command Known draft OutOfMemory =
    command.Unfailed × (draft.failures_new ≡ draft.failures_old) × ((n : ℕ) × HasFirst command Known draft n)

-- The bytes in the draft if this fault stopped a command: some bytes, whose number is reported if the draft failed.
abbrev pub HasTaken : Writer → CommandFault → Type 0
HasTaken draft fault =
    (bytes : List ℕ) × Appends draft.old draft.new bytes × ((n : ℕ) → fault ≡ Output n → n ≡ length bytes)

-- such a command, as a `Streamed`
abbrev pub writes_amidst : Command → Type 0 → Writer → Streamed
writes_amidst command Known draft = record {
  Makes = command.Makes;
  Stops = StopsAmidst command Known draft;
  Unfailed = command.Unfailed;
}

-- The result of such a command.
abbrev pub EndsAsItComes : Command → Type 0 → Out → Writer → Result Status CommandFault → Type 0
EndsAsItComes command Known out report result =
    EndsStreamed (writes_amidst command Known out.draft) out report result

-- The faults that stop a command that reads its other inputs before the first one: the same; or memory ran out in the
-- test of the first input, `Wants` holds, and nothing was written.
abbrev pub StopsInTurn : Command → Type 0 → Type 0 → Writer → CommandFault → Type 0
StopsInTurn command Wants Known draft (Input name why) = StopsAmidst command Known draft (Input name why)
StopsInTurn command Wants Known draft (Output n) = StopsAmidst command Known draft (Output n)
StopsInTurn command Wants Known draft (Report n) = ⊥
StopsInTurn command Wants Known draft OutOfMemory =
    StopsAmidst command Known draft OutOfMemory ⊎ (Wants × Takes draft [])

-- such a command, as a `Streamed`
abbrev pub writes_in_turn : Command → Type 0 → Type 0 → Writer → Streamed
writes_in_turn command Wants Known draft = record {
  Makes = command.Makes;
  Stops = StopsInTurn command Wants Known draft;
  Unfailed = command.Unfailed;
}

-- A command that only reports, with its input: the status and the text for an accepted input, whether it is refused and
-- why, and that its reader does not fail.
pub record Query : Type 1 where
  pub Makes : Status → List ℕ → Type 0
  pub Refuses : InputName → Why → Type 0
  pub Unfailed : Type 0

-- The input is accepted, and its text is reported.
pub record CarriesReport (Makes : Status → List ℕ → Type 0) (report : Writer)
    (result : Result Status CommandFault) : Type 0 where
  pub status : Status
  pub text : List ℕ
  pub makes : Makes status text
  pub reported : Reports report status text result

-- The result of a command that only reports. Its input is refused, and nothing is written; or it is accepted, and its
-- text is reported, completely or up to where the report failed. If memory runs out, nothing is written. If the input
-- is not refused, its reader does not fail.
abbrev pub EndsReport : Query → Writer → Result Status CommandFault → Type 0
EndsReport query report (Ok status) = query.Unfailed × CarriesReport query.Makes report (Ok status)
EndsReport query report (Err (Input name why)) = query.Refuses name why × Takes report []
EndsReport query report (Err (Output _)) = ⊥
EndsReport query report (Err (Report n)) = query.Unfailed × CarriesReport query.Makes report (Err (Report n))
EndsReport query report (Err OutOfMemory) = query.Unfailed × Takes report []
