-- The inputs of a command: their content, and which are refused and why.
use Rattle.std.specs.Prelude.{◌≡◌, ◌≢◌, ℕ, ◌+◌, Bool, List, map, take, drop, zip, Option, Some}
use Rattle.std.specs.Prelude.{IfSome, Result, Ok, Err, slice_get, ◌⊎◌}
use Rattle.std.specs.List.{AllByRecursion}
use Rattle.byte_device.specs.Devices.{FailedIn}
use Rattle.archive_core.specs.Content.{Operations, IsContent}
use Rattle.archive_core.specs.Part.{part}
use Rattle.archive_records.specs.Text.{IsArchiveOf}
use Rattle.archive_records.specs.Reading.{Meaning, ReadsWhole}
use Rattle.archive_records.specs.declared.fault.RecordFault.{RecordFault}
use Rattle.archive_records.specs.declared.fault.RecordFaultKind.TheVariants.{Device, OutOfMemory as RecordOutOfMemory}
use Rattle.archive_records.specs.declared.kind.TextKind.{TextKind}
use Rattle.archive_records.specs.declared.kind.TextKind.TheVariants.{Archive as ArchiveFile}
use Rattle.archive_records.specs.declared.kind.TextKind.TheVariants.{Operations as OperationsFile}
use Rattle.archive_records.specs.declared.kind.TextKind.TheVariants.{Summary as SummaryFile}
use Rattle.index_format.specs.declared.index_fault.IndexFaultKind.TheVariants.{Device as IndexDevice}
use Rattle.archive_image_admission.specs.File.{IsAcceptedFile, IsTakeFault}
use Rattle.archive_image_admission.specs.declared.fault.TakeFault.{TakeFault}
use Rattle.archive_image_admission.specs.declared.fault.TakeFault.TheVariants.{OutOfMemory as TakeOutOfMemory}
use Rattle.text_values.specs.Lines.{line_at}
use Rattle.text_input_files.specs.FrameFlaws.{frame_flaw}
use Rattle.text_input_files.specs.Frames.{frames_of}
use Rattle.text_input_files.specs.declared.frame.Frame.{Frame}
use Rattle.text_input_files.specs.ScriptFlaws.{script_flaw}
use Rattle.text_input_files.specs.Script.{script_of}
use Rattle.command_common.specs.declared.faults.CommandFault.{CommandFault}
use Rattle.command_common.specs.declared.faults.CommandFault.TheVariants.{Input, Output, Report, OutOfMemory}
use Rattle.command_common.specs.declared.faults.InputName.{InputName}
use Rattle.command_common.specs.declared.faults.InputName.TheVariants.{Archive, File, Ops, Summary, Script}
use Rattle.command_common.specs.declared.faults.InputName.TheVariants.{Frames}
use Rattle.command_common.specs.declared.faults.Why.{Why}
use Rattle.command_common.specs.declared.faults.Why.TheVariants.{Device as CannotRead, Record, Take, Script as Faulty}
use Rattle.command_common.specs.declared.faults.Why.TheVariants.{CannotOpen as NotOpened, BadFrame, OldArchive, TooLong}
use Rattle.command_common.specs.declared.faults.Why.TheVariants.{Index as IndexFaulty, Damaged, NoArchive, NoIndex}
use Rattle.command_common.specs.declared.faults.Why.TheVariants.{NoLines, Stale}

-- An input before and after a call. The functions are the bytes that it has left, if known, and the number of its
-- failures.
pub record Reader (S : Type 0) : Type 0 where
  pub left : S → Option (List ℕ)
  pub failures : S → ℕ
  pub old : S
  pub new : S

-- the input with these two states
abbrev pub reader : {S : Type 0} → (S → Option (List ℕ)) → (S → ℕ) → S → S
    → Reader S
reader left failures old new = record { left = left; failures = failures; old = old; new = new }

-- the inputs of a list, each with its two states
abbrev pub readers : {S : Type 0} → (S → Option (List ℕ)) → (S → ℕ)
    → List S → List S → List (Reader S)
readers left failures old new = map (λ states. reader left failures states.0 states.1) (zip old new)

-- The input's bytes, if known, satisfy `IsTrue`.
abbrev pub Gives : {S : Type 0} → Reader S → (List ℕ → Type 0) → Type 0
Gives input IsTrue = IfSome (input.left input.old) IsTrue

-- The input has these bytes, if its own are known.
abbrev pub Holds : {S : Type 0} → Reader S → List ℕ → Type 0
Holds input bytes = Gives input (λ text. text ≡ bytes)

-- The input is an archive's text with this content, if its bytes are known.
abbrev pub HoldsArchive : {S : Type 0} → Reader S → Operations → Type 0
HoldsArchive input o = Gives input (IsArchiveOf o)

-- The input did not fail in the call.
abbrev pub Unfailed : {S : Type 0} → Reader S → Type 0
Unfailed input = input.failures input.new ≡ input.failures input.old

-- None of these inputs failed.
abbrev pub EachUnfailed : {S : Type 0} → List (Reader S) → Type 0
EachUnfailed inputs = AllByRecursion Unfailed inputs

-- The input is unchanged.
abbrev pub IsUntouched : {S : Type 0} → Reader S → Type 0
IsUntouched input = input.new ≡ input.old

-- Each of these inputs is unchanged.
abbrev pub EachUntouched : {S : Type 0} → List (Reader S) → Type 0
EachUntouched inputs = AllByRecursion IsUntouched inputs

-- why a text of this kind is refused: the fault of reading all of it, which is not lack of memory
abbrev pub IsTextRefused : {S : Type 0} → TextKind → Reader S → Why → Type 0
IsTextRefused {S = S} kind input why =
    (fault : RecordFault) × (why ≡ Record fault) × (fault.kind ≢ RecordOutOfMemory)
    × ReadsWhole {T = Meaning kind} kind (λ meaning. meaning) input.left input.failures input.old input.new (Err fault)

-- why an archive is refused
abbrev pub IsArchiveRefused : {S : Type 0} → Reader S → Why → Type 0
IsArchiveRefused input why = IsTextRefused ArchiveFile input why

-- why an operations file is refused
abbrev pub IsOpsRefused : {S : Type 0} → Reader S → Why → Type 0
IsOpsRefused input why = IsTextRefused OperationsFile input why

-- why a summary is refused
abbrev pub IsSummaryRefused : {S : Type 0} → Reader S → Why → Type 0
IsSummaryRefused input why = IsTextRefused SummaryFile input why

-- why a file is refused: its reader failed, or it did not and its bytes have this fault
abbrev pub IsFileRefused : {S : Type 0} → Reader S → Why → Type 0
IsFileRefused input why =
    ((why ≡ CannotRead) × FailedIn (input.failures input.old) (input.failures input.new))
    ⊎ ((fault : TakeFault) × (why ≡ Take fault) × (fault ≢ TakeOutOfMemory) × Unfailed input
    × Gives input (λ bytes. IsTakeFault bytes fault))

-- why the bytes of an input cannot be read: its reader failed
abbrev pub IsUnread : {S : Type 0} → Reader S → Why → Type 0
IsUnread input NotOpened = ⊥
IsUnread input CannotRead = FailedIn (input.failures input.old) (input.failures input.new)
IsUnread input (Record _) = ⊥
IsUnread input (Take _) = ⊥
IsUnread input (Faulty _ _ _) = ⊥
IsUnread input (BadFrame _ _) = ⊥
IsUnread input OldArchive = ⊥
IsUnread input TooLong = ⊥
IsUnread input (IndexFaulty _) = ⊥
IsUnread input (Stale _) = ⊥
IsUnread input (Damaged _) = ⊥
IsUnread input (NoLines _) = ⊥
IsUnread input NoArchive = ⊥
IsUnread input NoIndex = ⊥

-- why a script is refused: its bytes cannot be read, or this is their first faulty line, with its flaw
abbrev pub IsScriptRefused : {S : Type 0} → Reader S → Why → Type 0
IsScriptRefused input NotOpened = ⊥
IsScriptRefused input CannotRead = IsUnread input CannotRead
IsScriptRefused input (Record _) = ⊥
IsScriptRefused input (Take _) = ⊥
IsScriptRefused input (Faulty fault line flaw) = Unfailed input
    × Gives input (λ bytes. (script_of bytes ≡ Err (fault, line)) × (flaw ≡ script_flaw fault (line_at bytes line)))
IsScriptRefused input (BadFrame _ _) = ⊥
IsScriptRefused input OldArchive = ⊥
IsScriptRefused input TooLong = ⊥
IsScriptRefused input (IndexFaulty _) = ⊥
IsScriptRefused input (Stale _) = ⊥
IsScriptRefused input (Damaged _) = ⊥
IsScriptRefused input (NoLines _) = ⊥
IsScriptRefused input NoArchive = ⊥
IsScriptRefused input NoIndex = ⊥

-- why frames are refused: their bytes cannot be read, or this is their first faulty line, with its flaw
abbrev pub IsFramesRefused : {S : Type 0} → Reader S → Why → Type 0
IsFramesRefused input NotOpened = ⊥
IsFramesRefused input CannotRead = IsUnread input CannotRead
IsFramesRefused input (Record _) = ⊥
IsFramesRefused input (Take _) = ⊥
IsFramesRefused input (Faulty _ _ _) = ⊥
IsFramesRefused input (BadFrame line flaw) = Unfailed input
    × Gives input (λ bytes. (frames_of bytes ≡ Err line) × (flaw ≡ frame_flaw (line_at bytes line)))
IsFramesRefused input OldArchive = ⊥
IsFramesRefused input TooLong = ⊥
IsFramesRefused input (IndexFaulty _) = ⊥
IsFramesRefused input (Stale _) = ⊥
IsFramesRefused input (Damaged _) = ⊥
IsFramesRefused input (NoLines _) = ⊥
IsFramesRefused input NoArchive = ⊥
IsFramesRefused input NoIndex = ⊥

-- The input is an archive's text.
abbrev pub IsArchive : {S : Type 0} → Reader S → Type 0
IsArchive input = (o : Operations) × IsContent o × HoldsArchive input o

-- The input is an archive's text, and `o` is the selected part of its content.
pub record HoldsPart {S : Type 0} (input : Reader S) (picks : List ℕ → Bool) (o : Operations) : Type 0 where
  pub whole : Operations
  pub is_content : IsContent whole
  pub text : HoldsArchive input whole
  pub kept : o ≡ part whole picks

-- The input is an archive's text whose content satisfies `IsTrue`.
pub record HoldsContent {S : Type 0} (input : Reader S) (IsTrue : Operations → Type 0) : Type 0 where
  pub content : Operations
  pub is_content : IsContent content
  pub text : HoldsArchive input content
  pub is_true : IsTrue content

-- The input is an accepted file.
abbrev pub IsAccepted : {S : Type 0} → Reader S → Type 0
IsAccepted input = (bytes : List ℕ) × IsAcceptedFile bytes × Holds input bytes

-- The input is a text of frames.
abbrev pub IsFrames : {S : Type 0} → Reader S → Type 0
IsFrames input = (listed : List Frame) × Gives input (λ bytes. frames_of bytes ≡ Ok listed)

-- the archive with this number on the command line, counted from 0, is refused
abbrev pub IsRefusedArchive : {S : Type 0} → ℕ → Reader S → InputName → Why → Type 0
IsRefusedArchive index input at why = (at ≡ Archive index) × IsArchiveRefused input why

-- the file with this number is refused
abbrev pub IsRefusedFile : {S : Type 0} → ℕ → Reader S → InputName → Why → Type 0
IsRefusedFile index input at why = (at ≡ File index) × IsFileRefused input why

-- the bytes of the file with this number are refused
abbrev pub IsRefusedBytes : ℕ → List ℕ → InputName → Why → Type 0
IsRefusedBytes index bytes at why =
    (at ≡ File index) × (fault : TakeFault) × (why ≡ Take fault) × (fault ≢ TakeOutOfMemory) × IsTakeFault bytes fault

-- the operations file is refused
abbrev pub IsRefusedOps : {S : Type 0} → Reader S → InputName → Why → Type 0
IsRefusedOps input at why = (at ≡ Ops) × IsOpsRefused input why

-- the summary is refused
abbrev pub IsRefusedSummary : {S : Type 0} → Reader S → InputName → Why → Type 0
IsRefusedSummary input at why = (at ≡ Summary) × IsSummaryRefused input why

-- the script is refused
abbrev pub IsRefusedScript : {S : Type 0} → Reader S → InputName → Why → Type 0
IsRefusedScript input at why = (at ≡ Script) × IsScriptRefused input why

-- the frames are refused
abbrev pub IsRefusedFrames : {S : Type 0} → Reader S → InputName → Why → Type 0
IsRefusedFrames input at why = (at ≡ Frames) × IsFramesRefused input why

-- One of these inputs, whose names are `asked_of` their numbers, is refused. Those before it are accepted and their
-- readers do not fail; those after it are unchanged.
pub record IsFirstRefused {S : Type 0} (asked_of : ℕ → InputName) (IsGood : Reader S → Type 0)
    (IsRefused : Reader S → Why → Type 0) (inputs : List (Reader S)) (at : InputName) (why : Why) : Type 0 where
  pub number : ℕ
  pub at_is : at ≡ asked_of number
  pub before : AllByRecursion IsGood (take number inputs)
  pub unfailed : EachUnfailed (take number inputs)
  pub input : Reader S
  pub input_is : slice_get inputs number ≡ Some input
  pub refused : IsRefused input why
  pub behind : EachUntouched (drop (number + 1) inputs)

-- The first input of a command is refused, and the later ones are unchanged; or it is an archive's text, its reader
-- does not fail, and a later input is refused.
abbrev pub IsRefusedInOrder : {S : Type 0} → Reader S → Type 0 → (InputName → Why → Type 0) → InputName → Why → Type 0
IsRefusedInOrder input Untouched IsRefusedLater at why =
    (IsRefusedArchive 0 input at why × Untouched)
    ⊎ (IsArchive input × Unfailed input × IsRefusedLater at why)

-- The same for a command that reads its later inputs before the first one. If one of them is refused, it tests the
-- first one to its end before it reports that.
abbrev pub IsRefusedInTurn : {S : Type 0} → Reader S → (InputName → Why → Type 0) → InputName → Why → Type 0
IsRefusedInTurn input IsRefusedLater at why =
    IsRefusedArchive 0 input at why ⊎ (IsArchive input × Unfailed input × IsRefusedLater at why)

-- An input after the first one was refused, and the first one, which was being tested, did not fail.
abbrev pub IsWantedInTurn : {S : Type 0} → Reader S → (InputName → Why → Type 0) → Type 0
IsWantedInTurn input IsRefusedLater = Unfailed input × ((at : InputName) × (why : Why) × IsRefusedLater at why)

-- The fault is the refusal of an input, which satisfies `Refused`; or lack of memory, and `Unfailed` holds.
abbrev pub IsRefusal : (InputName → Why → Type 0) → Type 0 → CommandFault → Type 0
IsRefusal Refused Unfailed (Input name why) = Refused name why
IsRefusal Refused Unfailed (Output _) = ⊥
IsRefusal Refused Unfailed (Report _) = ⊥
IsRefusal Refused Unfailed OutOfMemory = Unfailed

-- Inputs were read: the first fact holds for the result, and none of their readers failed.
pub record AreRead (IsTrue NoneFailed : Type 0) : Type 0 where
  pub is : IsTrue
  pub unfailed : NoneFailed

-- The result of reading inputs: a value that satisfies the relation, or a refusal, or lack of memory. A reader fails
-- only at a refusal.
abbrev pub ReadsInputs : {T : Type 0} → Result T CommandFault → (T → Type 0) → (InputName → Why → Type 0) → Type 0
    → Type 0
ReadsInputs (Ok value) IsTrue IsRefused NoneFailed = AreRead (IsTrue value) NoneFailed
ReadsInputs (Err fault) IsTrue IsRefused NoneFailed = IsRefusal IsRefused NoneFailed fault

-- the result of reading one input: a value that satisfies the relation with it, or a refusal
abbrev pub ReadsInput : {S T : Type 0} → Reader S → Result T CommandFault → (Reader S → T → Type 0)
    → (Reader S → InputName → Why → Type 0) → Type 0
ReadsInput input result IsTrue IsRefused = ReadsInputs result (IsTrue input) (IsRefused input) (Unfailed input)

-- The fault that is reported after a fault of an input after the first one: the refusal in order, after the first input
-- was tested; or lack of memory, with the first input unchanged.
abbrev pub TellsInTurn : {S : Type 0} → Reader S → CommandFault → CommandFault → Type 0
TellsInTurn input (Input at why) told =
    IsRefusal (IsRefusedInTurn input (λ name reason. (name ≡ at) × (reason ≡ why))) (Unfailed input) told
TellsInTurn input (Output n) told = (told ≡ Output n) × IsUntouched input
TellsInTurn input (Report n) told = (told ≡ Report n) × IsUntouched input
TellsInTurn input OutOfMemory told = (told ≡ OutOfMemory) × IsUntouched input

-- These are the input's bytes.
abbrev pub IsGiven : {S : Type 0} → Reader S → List ℕ → Type 0
IsGiven input bytes = input.left input.old ≡ Some bytes

-- The input's bytes are known.
abbrev pub IsKnown : {S : Type 0} → Reader S → Type 0
IsKnown input = (bytes : List ℕ) × IsGiven input bytes

-- The bytes of each of these inputs are known.
abbrev pub EachKnown : {S : Type 0} → List (Reader S) → Type 0
EachKnown inputs = AllByRecursion IsKnown inputs

-- The input's bytes are an archive's text with this content.
abbrev pub IsGivenArchive : {S : Type 0} → Reader S → Operations → Type 0
IsGivenArchive input o = (text : List ℕ) × IsArchiveOf o text × IsGiven input text

-- the reader failed, and there is no other fault
abbrev pub IsDeviceFault : Why → Type 0
IsDeviceFault NotOpened = ⊥
IsDeviceFault CannotRead = Unit {0}
IsDeviceFault (Record fault) = fault.kind ≡ Device
IsDeviceFault (Take _) = ⊥
IsDeviceFault (Faulty _ _ _) = ⊥
IsDeviceFault (BadFrame _ _) = ⊥
IsDeviceFault OldArchive = ⊥
IsDeviceFault TooLong = ⊥
IsDeviceFault (IndexFaulty fault) = fault.kind ≡ IndexDevice
IsDeviceFault (Stale _) = ⊥
IsDeviceFault (Damaged _) = ⊥
IsDeviceFault (NoLines _) = ⊥
IsDeviceFault NoArchive = ⊥
IsDeviceFault NoIndex = ⊥

-- A valid archive's text is refused only if its device fails.
abbrev pub RefusesDevicesAlone : {R : Type 0} → (Reader R → InputName → Why → Type 0) → Type 0
RefusesDevicesAlone {R = R} Refuses = (archive : Reader R) (o : Operations) (name : InputName) (why : Why) → IsContent o
    → IsGivenArchive archive o → Refuses archive name why → IsDeviceFault why
