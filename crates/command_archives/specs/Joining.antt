-- IN's archive, joined with one in memory: definitions for private functions. No public contract uses them.
use Rattle.std.specs.Prelude.{◌≡◌, ℕ, List, [], Some, Result, Ok, Err}
use Rattle.std.specs.FinSet as set
use Rattle.archive_core.specs.Content.{Operations, IsContent, joined}
use Rattle.archive_records.specs.declared.writing.Sizes.{Sizes}
use Rattle.archive_records.specs.Text.{written, IsArchiveOf}
use Rattle.archive_records.specs.Writing.{IsWrittenWhole}
use Rattle.byte_device.specs.Devices.{Stream}
use Rattle.command_common.specs.declared.faults.CommandFault.{CommandFault}
use Rattle.command_common.specs.Ends.{Command, HasTaken, MakesArchive, StopsAmidst}
use Rattle.command_common.specs.Inputs.{Reader, Unfailed, IsKnown, IsRefusedArchive, HoldsArchive}
use Rattle.command_common.specs.Outputs.{writer}
use Rattle.command_archives.specs.Begun.{IsUnfinished}

-- the result of writing a draft while the input is read: the given relation holds; or writing was stopped, with the
-- cause and the bytes of the draft
abbrev pub WritesAmidst : {R W T : Type 0} → (Reader R → Command) → (Reader R → Stream W → T → Type 0) → Reader R
    → Stream W → Result T CommandFault → Type 0
WritesAmidst command Makes input draft (Ok made) = Makes input draft made
WritesAmidst command Makes input draft (Err fault) =
    HasTaken (writer draft.bytes draft.failures draft.old draft.new) fault
    × StopsAmidst (command input) (IsKnown input) (writer draft.bytes draft.failures draft.old draft.new) fault
    × IsUnfinished input (Unit {0}) command (Unit {0}) (writer draft.bytes draft.failures draft.old draft.new)

-- A source has the text of this content, and does not fail.
pub record IsAtHand {S : Type 0} (side : Stream S) (p : Operations) : Type 0 where
  pub is_content : IsContent p
  pub text : List ℕ
  pub is_text : IsArchiveOf p text
  pub bytes : side.bytes side.old ≡ Some text
  pub unfailed_before : side.failures side.old ≡ 0
  pub unfailed : side.failures side.new ≡ 0

-- The input is an archive's text, and `text` is the text of the join of its content with this one.
pub record MakesJoin {R : Type 0} (input : Reader R) (p : Operations) (text told : List ℕ) : Type 0 where
  pub content : Operations
  pub is_content : IsContent content
  pub archive : HoldsArchive input content
  pub text_is : text ≡ written (joined content p)

-- a command that joins the input with this content
abbrev pub joining : {R : Type 0} → Reader R → Operations → Command
joining input p = record {
  Makes = MakesJoin input p;
  Refuses = IsRefusedArchive 0 input;
  Unfailed = Unfailed input;
}

-- The input is an archive's text, and the text of the join of its content with this one was written.
pub record IsJoined {R W : Type 0} (input : Reader R) (p : Operations) (draft : Stream W) (sizes : Sizes)
    : Type 0 where
  pub content : Operations
  pub is_content : IsContent content
  pub archive : HoldsArchive input content
  pub unfailed : Unfailed input
  pub written_is : IsWrittenWhole draft.bytes draft.failures draft.old draft.new (set.len (joined content p))
      (written (joined content p)) sizes

-- the result of writing the join with a content that satisfies the given relation: it was written; or writing was
-- stopped, with the cause and the bytes of the draft
abbrev pub JoinsAmidst : {R W : Type 0} → (Operations → Type 0) → Reader R → Stream W → Result Sizes CommandFault
    → Type 0
JoinsAmidst IsGiven input draft (Ok sizes) = (p : Operations) → IsGiven p → IsJoined input p draft sizes
JoinsAmidst IsGiven input draft (Err fault) =
    HasTaken (writer draft.bytes draft.failures draft.old draft.new) fault
    × ((p : Operations) → IsGiven p
    → StopsAmidst (joining input p) (IsKnown input) (writer draft.bytes draft.failures draft.old draft.new) fault
    × IsUnfinished input (Unit {0}) (λ given. joining given p) (Unit {0})
    (writer draft.bytes draft.failures draft.old draft.new))

-- The input is an archive's text, and `content` is the join of its content with this one. The only lines are the sizes.
pub record MakesJoined {R : Type 0} (input : Reader R) (p content : Operations) (lines : List ℕ) : Type 0 where
  pub before : Operations
  pub is_content : IsContent before
  pub archive : HoldsArchive input before
  pub content_is : content ≡ joined before p
  pub lines_are : lines ≡ []

-- the command that writes that join
abbrev pub joins : {R : Type 0} → Reader R → Operations → Command
joins input p = record {
  Makes = MakesArchive (MakesJoined input p);
  Refuses = IsRefusedArchive 0 input;
  Unfailed = Unfailed input;
}
