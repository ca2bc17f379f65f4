-- OUT that is written as an input is read: when it is created, and the bytes of its draft if the command is stopped.
use Rattle.std.specs.Prelude.{ℕ, List, [], IfSome, Result, ◌⊎◌}
use Rattle.std.specs.FinSet as set
use Rattle.std.specs.Io.KnownBytes.{Appends}
use Rattle.byte_device.specs.Devices.{stream}
use Rattle.byte_device.specs.Writes.{WritesFirst}
use Rattle.archive_core.specs.Content.{content_of}
use Rattle.archive_merge.specs.Merging.{AreGoodRecords, IsArchiveText, IsBegun}
use Rattle.command_common.specs.declared.faults.CommandFault.{CommandFault}
use Rattle.command_common.specs.declared.faults.Status.{Status}
use Rattle.command_common.specs.Ends.{Command, EndsStreamed, Streamed, writes_amidst}
use Rattle.command_common.specs.Inputs.{IsGiven, IsGivenArchive, IsKnown, Reader}
use Rattle.command_common.specs.Outputs.{Out, Takes, Writer}

-- The magic of an archive, of either version, was read from the input.
abbrev pub HasBegun : {R : Type 0} → Reader R → Type 0
HasBegun input = IsBegun (stream input.left input.failures input.old input.new)

-- The bytes that the writer accepted, if its contents are known, are not the text of an archive.
abbrev pub TakesNoText : Writer → Type 0
TakesNoText w = IfSome w.old (λ _. (bytes : List ℕ) → Appends w.old w.new bytes → IsArchiveText bytes → ⊥)

-- For any bytes of the input, the draft has a beginning, and not all, of the text that the command makes of an archive
-- whose content is that of the good records of those bytes.
abbrev pub BeginsGood : {R : Type 0} → (Reader R → Command) → Reader R → Writer → Type 0
BeginsGood {R = R} command input draft =
    (bytes : List ℕ) (records : List (List ℕ)) (sound : Reader R) (text told : List ℕ)
    → IsGiven input bytes → AreGoodRecords bytes records
    → IsGivenArchive sound (content_of (set.from_list records)) → (command sound).Makes text told
    → (n : ℕ) × WritesFirst draft.old draft.new text n

-- The draft of OUT if a command is stopped that writes it as this input is read. The draft is not the text of an
-- archive. It was created (accepted bytes or failed) only after the inputs that follow this one were accepted and the
-- magic of this one was read. If the bytes of the inputs are known, it has a beginning of the text for this input's
-- good records.
pub record IsUnfinished {R : Type 0} (input : Reader R) (Accepted : Type 0) (command : Reader R → Command)
    (Known : Type 0) (draft : Writer) : Type 0 where
  pub no_text : TakesNoText draft
  pub begun : Takes draft [] ⊎ (Accepted × HasBegun input)
  pub good : Known → BeginsGood command input draft

-- a command whose draft is so if it is stopped
abbrev pub begins_after : {R : Type 0} → Reader R → Type 0 → (Reader R → Command) → Type 0 → Writer → Streamed
    → Streamed
begins_after input Accepted command Known draft streamed = record {
  Makes = streamed.Makes;
  Stops = λ fault. streamed.Stops fault × IsUnfinished input Accepted command Known draft;
  Unfailed = streamed.Unfailed;
}

-- the same for a command that has no other input
abbrev pub begins_alone : {R : Type 0} → Reader R → (Reader R → Command) → Writer → Streamed
begins_alone input command draft =
    begins_after input (Unit {0}) command (Unit {0}) draft (writes_amidst (command input) (IsKnown input) draft)

-- The result of such a command.
abbrev pub EndsBegun : {R : Type 0} → Reader R → (Reader R → Command) → Out → Writer → Result Status CommandFault
    → Type 0
EndsBegun input command out report result = EndsStreamed (begins_alone input command out.draft) out report result
