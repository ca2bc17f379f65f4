-- The archive that `apply` makes from an archive and an operations file.
use Rattle.std.specs.Prelude.{◌≡◌, ℕ, ◌-◌, List, length, map}
use Rattle.archive_core.specs.Content.{Operations, IsContent, with_records, new_among}
use Rattle.archive_core.specs.Record.{record_bytes}
use Rattle.archive_core.specs.declared.operations.Operation.{Operation}
use Rattle.archive_records.specs.Text.{IsOperationsText}
use Rattle.text_reports.specs.Report.{apply_line}
use Rattle.command_common.specs.Ends.{Command, MakesArchive, Streamed, writes_in_turn}
use Rattle.command_common.specs.Inputs.{Reader, Gives, Unfailed, IsRefusedOps, IsRefusedInTurn, IsWantedInTurn}
use Rattle.command_common.specs.Inputs.{HoldsArchive, IsKnown}
use Rattle.command_common.specs.Outputs.{Writer}
use Rattle.command_archives.specs.Begun.{begins_after}

-- IN is the text of a content and OPS that of operations; `content` adds their records to it, and `lines` is the line
-- that counts the new and the known ones.
pub record MakesApplied {R S : Type 0} (input : Reader R) (ops : Reader S) (content : Operations)
    (lines : List ℕ) : Type 0 where
  pub before : Operations
  pub operations : List Operation
  pub is_content : IsContent before
  pub archive : HoldsArchive input before
  pub ops_are : Gives ops (λ text. IsOperationsText text operations)
  pub content_is : content ≡ with_records before (map record_bytes operations)
  pub lines_are : lines
      ≡ apply_line (new_among before (map record_bytes operations)) (length operations - new_among before
      (map record_bytes operations))

-- `apply`, over these inputs
abbrev pub apply : {R S : Type 0} → Reader R → Reader S → Command
apply input ops = record {
  Makes = MakesArchive (MakesApplied input ops);
  Refuses = IsRefusedInTurn input (IsRefusedOps ops);
  Unfailed = Unfailed input × Unfailed ops;
}

-- OPS is the text of operations
abbrev pub GivesOperations : {S : Type 0} → Reader S → Type 0
GivesOperations ops = (operations : List Operation) × Gives ops (λ text. IsOperationsText text operations)

-- the same while IN is read; OPS is read before IN
abbrev pub apply_as_it_comes : {R S : Type 0} → Reader R → Reader S → Writer → Streamed
apply_as_it_comes input ops draft =
    begins_after input (GivesOperations ops × Unfailed ops) (λ given. apply given ops) (IsKnown ops) draft
    (writes_in_turn (apply input ops) (IsWantedInTurn input (IsRefusedOps ops)) (IsKnown input × IsKnown ops) draft)
