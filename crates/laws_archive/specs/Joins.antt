-- Archives whose bytes are known, with their join, and the reports of commands over them: definitions for laws.
use Rattle.std.specs.Prelude.{◌≡◌, ◌↔◌, ℕ, List}
use Rattle.std.specs.List.{AllByRecursion, AllZip}
use Rattle.archive_core.specs.Content.{Operations, IsContent}
use Rattle.command_common.specs.declared.faults.InputName.{InputName}
use Rattle.command_common.specs.declared.faults.Status.{Status}
use Rattle.command_common.specs.declared.faults.Why.{Why}
use Rattle.command_common.specs.Archives.{merged}
use Rattle.command_common.specs.Inputs.{Reader, IsDeviceFault, IsGiven, IsGivenArchive}
use Rattle.command_archives.specs.Merge.{merge}

-- The archives were opened, their bytes are the texts of contents, and `join` is the join of these.
pub record IsGivenJoin {R S : Type 0} (archive : Reader R) (others : List (Reader S)) (join : Operations)
    : Type 0 where
  pub content : Operations
  pub contents : List Operations
  pub is_content : IsContent content
  pub are_contents : AllByRecursion IsContent contents
  pub archive_is : IsGivenArchive archive content
  pub others_are : AllZip IsGivenArchive others contents
  pub join_is : join ≡ merged content contents

-- The archives are so, and the file has the text that `merge` of them writes.
pub record IsMergedFile {R S T : Type 0} (archive : Reader R) (others : List (Reader S)) (file : Reader T)
    : Type 0 where
  pub join : Operations
  pub made : List ℕ
  pub told : List ℕ
  pub given : IsGivenJoin archive others join
  pub makes : (merge archive others).Makes made told
  pub file_is : IsGiven file made

-- Inputs are refused only for their devices.
abbrev pub AreDevicesAlone : (InputName → Why → Type 0) → Type 0
AreDevicesAlone Refuses = (name : InputName) (why : Why) → Refuses name why → IsDeviceFault why

-- The two have one status and one text.
abbrev pub TellOne : (Status → List ℕ → Type 0) → (Status → List ℕ → Type 0) → Type 0
TellOne Tells Others = (status other_status : Status) (text other_text : List ℕ)
    → Tells status text → Others other_status other_text → (status ≡ other_status) × (text ≡ other_text)

-- The two have the same statuses and texts.
abbrev pub TellAlike : (Status → List ℕ → Type 0) → (Status → List ℕ → Type 0) → Type 0
TellAlike Tells Others = (status : Status) (text : List ℕ) → Tells status text ↔ Others status text
