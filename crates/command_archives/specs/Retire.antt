-- The archive that `retire` makes from an archive.
use Rattle.std.specs.Prelude.{◌≡◌, ℕ, List}
use Rattle.archive_core.specs.Record.{retirement_record}
use Rattle.archive_core.specs.Content.{Operations, IsContent, with_record, changes}
use Rattle.archive_core.specs.declared.keys.SliceKey.{SliceKey}
use Rattle.archive_core.specs.declared.keys.Digest.{Digest}
use Rattle.text_reports.specs.Report.{retire_line}
use Rattle.command_common.specs.Ends.{Command, MakesArchive, Streamed}
use Rattle.command_common.specs.Inputs.{Reader, Unfailed, IsRefusedArchive, HoldsArchive}
use Rattle.command_common.specs.Outputs.{Writer}
use Rattle.command_archives.specs.Begun.{begins_alone}

-- IN is the text of a content; `content` adds the retirement to it, and `lines` is the line that states whether that
-- changed it.
pub record MakesRetired {R : Type 0} (input : Reader R) (key : SliceKey) (digest : Digest) (content : Operations)
    (lines : List ℕ) : Type 0 where
  pub before : Operations
  pub is_content : IsContent before
  pub archive : HoldsArchive input before
  pub content_is : content ≡ with_record before (retirement_record key digest.0)
  pub lines_are : lines ≡ retire_line (changes before (retirement_record key digest.0)) key digest

-- `retire`, over this input
abbrev pub retire : {R : Type 0} → Reader R → SliceKey → Digest → Command
retire input key digest = record {
  Makes = MakesArchive (MakesRetired input key digest);
  Refuses = IsRefusedArchive 0 input;
  Unfailed = Unfailed input;
}

-- the same while IN is read
abbrev pub retire_as_it_comes : {R : Type 0} → Reader R → SliceKey → Digest → Writer → Streamed
retire_as_it_comes input key digest draft = begins_alone input (λ given. retire given key digest) draft
