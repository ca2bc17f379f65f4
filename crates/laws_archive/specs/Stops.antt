-- The state of OUT after a command is stopped that writes OUT while it still reads. Definitions for laws.
use Rattle.std.specs.Prelude.{◌≡◌, ◌<◌, ℕ, List, [], IfSome, length, take}
use Rattle.std.specs.FinSet as set
use Rattle.std.specs.Io.KnownBytes.{Appends}
use Rattle.archive_core.specs.Content.{content_of}
use Rattle.archive_merge.specs.Merging.{AreGoodRecords, IsArchiveText}
use Rattle.command_common.specs.declared.faults.CommandFault.{CommandFault}
use Rattle.command_common.specs.Ends.{Command, IsStopped, Streamed}
use Rattle.command_common.specs.Inputs.{IsGiven, IsGivenArchive, IsKnown, Reader}
use Rattle.command_common.specs.Outputs.{Out, PublishesNothing, Takes, Writer}

-- the text begins with these bytes, and is longer
abbrev pub BeginsWith : List ℕ → List ℕ → Type 0
BeginsWith text bytes = (n : ℕ) × (n < length text) × (bytes ≡ take n text)

-- OUT is unchanged, and nothing was reported. Its draft, which may be a pipe, accepted some bytes. If the draft's
-- contents are known, these are not the text of an archive; and if the bytes of all inputs are known, the text for
-- accepted inputs begins with them. For any bytes of the first input, so does the text that is made from an archive in
-- its place with the content of the good records of those bytes.
pub record LeavesBeginning {R : Type 0} (command : Reader R → Command) (input : Reader R) (OthersKnown : Type 0)
    (out : Out) (report : Writer) : Type 0 where
  pub kept : PublishesNothing out
  pub unreported : Takes report []
  pub bytes : List ℕ
  pub took : Appends out.draft.old out.draft.new bytes
  pub no_text : IfSome out.draft.old (λ _. IsArchiveText bytes → ⊥)
  pub begins : IfSome out.draft.old (λ _. IsKnown input × OthersKnown → (text told : List ℕ)
      → (command input).Makes text told → BeginsWith text bytes)
  pub good : IfSome out.draft.old (λ _. OthersKnown
      → (whole : List ℕ) (records : List (List ℕ)) (sound : Reader R) (text told : List ℕ)
      → IsGiven input whole → AreGoodRecords whole records
      → IsGivenArchive sound (content_of (set.from_list records)) → (command sound).Makes text told
      → BeginsWith text bytes)

-- The same holds whenever the command is stopped before its text is complete: an input is refused, the draft fails, or
-- memory runs out.
abbrev pub LeavesBeginningIfStopped : {R : Type 0} → Streamed → (Reader R → Command) → Reader R → Type 0 → Out
    → Writer → Type 0
LeavesBeginningIfStopped streamed command input OthersKnown out report =
    (fault : CommandFault) → IsStopped streamed out report fault
    → LeavesBeginning command input OthersKnown out report
