-- The archive that `migrate` makes from an archive.
use Rattle.std.specs.Prelude.{◌≡◌, ℕ, List, []}
use Rattle.archive_core.specs.Content.{Operations, IsContent}
use Rattle.command_common.specs.Ends.{Command, MakesArchive, Streamed}
use Rattle.command_common.specs.Inputs.{Reader, Unfailed, IsRefusedArchive, HoldsArchive}
use Rattle.command_common.specs.Outputs.{Writer}
use Rattle.command_archives.specs.Begun.{begins_alone}

-- IN is an archive's text, of either version, and `content` is its content. The only lines are the sizes.
pub record MakesMigrated {R : Type 0} (input : Reader R) (content : Operations) (lines : List ℕ) : Type 0 where
  pub is_content : IsContent content
  pub archive : HoldsArchive input content
  pub lines_are : lines ≡ []

-- `migrate`, over this input
abbrev pub migrate : {R : Type 0} → Reader R → Command
migrate input = record {
  Makes = MakesArchive (MakesMigrated input);
  Refuses = IsRefusedArchive 0 input;
  Unfailed = Unfailed input;
}

-- the same while IN is read
abbrev pub migrate_as_it_comes : {R : Type 0} → Reader R → Writer → Streamed
migrate_as_it_comes input draft = begins_alone input (λ given. migrate given) draft
