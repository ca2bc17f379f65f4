-- The archive that `merge` makes from archives.
use Rattle.std.specs.Prelude.{◌≡◌, ℕ, List, [], fold}
use Rattle.std.specs.List.{AllByRecursion, AllZip}
use Rattle.std.specs.FinSet as set
use Rattle.archive_core.specs.Content.{Operations, IsContent}
use Rattle.command_common.specs.Archives.{further_name, merged}
use Rattle.command_common.specs.Ends.{Command, MakesArchive, Streamed, writes_in_turn}
use Rattle.command_common.specs.Inputs.{Reader, Unfailed, EachUnfailed, IsArchive, HoldsArchive, IsKnown, EachKnown}
use Rattle.command_common.specs.Inputs.{IsArchiveRefused, IsFirstRefused, IsRefusedInTurn, IsWantedInTurn}
use Rattle.command_common.specs.Outputs.{Writer}
use Rattle.command_archives.specs.Begun.{begins_after}

-- the operations of all these contents
abbrev pub operations_of : List Operations → Operations
operations_of contents = fold set.union set.empty contents

-- The files are the texts of contents, and `new` is the join of these with `old`.
pub record HasJoined {S : Type 0} (files : List (Reader S)) (old new : Operations) : Type 0 where
  pub contents : List Operations
  pub are_contents : AllByRecursion IsContent contents
  pub files_are : AllZip HoldsArchive files contents
  pub content : new ≡ merged old contents

-- IN and the files are the texts of contents, and `content` is their join. The only lines are the sizes.
pub record MakesMerged {R S : Type 0} (input : Reader R) (files : List (Reader S)) (content : Operations)
    (lines : List ℕ) : Type 0 where
  pub before : Operations
  pub contents : List Operations
  pub is_content : IsContent before
  pub are_contents : AllByRecursion IsContent contents
  pub archive : HoldsArchive input before
  pub files_are : AllZip HoldsArchive files contents
  pub content_is : content ≡ merged before contents
  pub lines_are : lines ≡ []

-- `merge`, over these inputs
abbrev pub merge : {R S : Type 0} → Reader R → List (Reader S) → Command
merge input files = record {
  Makes = MakesArchive (MakesMerged input files);
  Refuses = IsRefusedInTurn input (IsFirstRefused further_name IsArchive IsArchiveRefused files);
  Unfailed = Unfailed input × EachUnfailed files;
}

-- the same while IN is read; the files are read before it
abbrev pub merge_in_turn : {R S : Type 0} → Reader R → List (Reader S) → Writer → Streamed
merge_in_turn input files draft =
    begins_after input (AllByRecursion IsArchive files × EachUnfailed files) (λ given. merge given files)
    (EachKnown files) draft
    (writes_in_turn (merge input files)
    (IsWantedInTurn input (IsFirstRefused further_name IsArchive IsArchiveRefused files))
    (IsKnown input × EachKnown files) draft)
