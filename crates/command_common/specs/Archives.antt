-- The archives of a command, read as one by their join: their joint content, and which of them is refused.
use Rattle.std.specs.Prelude.{ℕ, ◌+◌, List, Result, fold}
use Rattle.std.specs.List.{AllByRecursion, AllZip}
use Rattle.archive_core.specs.Content.{Operations, IsContent, joined}
use Rattle.command_common.specs.declared.faults.CommandFault.{CommandFault}
use Rattle.command_common.specs.declared.faults.InputName.{InputName}
use Rattle.command_common.specs.declared.faults.InputName.TheVariants.{Archive}
use Rattle.command_common.specs.declared.faults.Why.{Why}
use Rattle.command_common.specs.Inputs.{Reader, Unfailed, EachUnfailed, EachUntouched, IsArchive, HoldsArchive}
use Rattle.command_common.specs.Inputs.{IsArchiveRefused, IsFirstRefused, IsRefusedInOrder, ReadsInputs}

-- a content joined with others, in order
abbrev pub merged : Operations → List Operations → Operations
merged o contents = fold joined o contents

-- the name of an archive in a list that follows the first archive on the command line
abbrev pub further_name : ℕ → InputName
further_name number = Archive (number + 1)

-- ARCHIVE and the others are the texts of contents whose join satisfies `IsTrue`.
pub record HoldTogether {R S : Type 0} (archive : Reader R) (others : List (Reader S)) (IsTrue : Operations → Type 0)
    : Type 0 where
  pub content : Operations
  pub contents : List Operations
  pub is_content : IsContent content
  pub are_contents : AllByRecursion IsContent contents
  pub archive_is : HoldsArchive archive content
  pub others_are : AllZip HoldsArchive others contents
  pub is_true : IsTrue (merged content contents)

-- the first of them that is refused, in the order of the command line
abbrev pub AreRefused : {R S : Type 0} → Reader R → List (Reader S) → InputName → Why → Type 0
AreRefused archive others =
    IsRefusedInOrder archive (EachUntouched others) (IsFirstRefused further_name IsArchive IsArchiveRefused others)

-- none of their readers failed
abbrev pub AreUnfailed : {R S : Type 0} → Reader R → List (Reader S) → Type 0
AreUnfailed archive others = Unfailed archive × EachUnfailed others

-- the result of reading them: a value that satisfies the relation with the join of their contents, or a refusal
abbrev pub ReadsTogether : {R S T : Type 0} → Reader R → List (Reader S) → Result T CommandFault
    → (T → Operations → Type 0) → Type 0
ReadsTogether archive others result IsTrue =
    ReadsInputs result (λ value. HoldTogether archive others (IsTrue value)) (AreRefused archive others)
    (AreUnfailed archive others)

-- the result of reading the others in order: a value that satisfies the relation with them, or a refusal
abbrev pub ReadsOthers : {S T : Type 0} → List (Reader S) → Result T CommandFault → (List (Reader S) → T → Type 0)
    → Type 0
ReadsOthers others result IsTrue =
    ReadsInputs result (IsTrue others) (IsFirstRefused further_name IsArchive IsArchiveRefused others)
    (EachUnfailed others)
