-- The report of `name` over archives.
use Rattle.std.specs.Prelude.{◌≡◌, ℕ, Bool, true, false, List, ◌++◌, codes}
use Rattle.archive_core.specs.Content.{Operations}
use Rattle.archive_core.specs.Names.{IsNameRow, IsNames, NameRecord}
use Rattle.text_reports.specs.Names.{name_lines}
use Rattle.command_common.specs.declared.faults.Status.{Status}
use Rattle.command_common.specs.Archives.{AreRefused, AreUnfailed, HoldTogether}
use Rattle.command_common.specs.Ends.{Query}
use Rattle.command_common.specs.Inputs.{Reader}
use Rattle.command_common.specs.Found.{found_status}

-- the report of a content for a name: the status of its rows, and their lines
pub record TellsNamed (content : Operations) (name : List ℕ) (status : Status) (text : List ℕ) : Type 0 where
  pub rows : List NameRecord
  pub names : IsNames content name rows
  pub status_is : status ≡ found_status rows
  pub text_is : text ≡ name_lines rows

-- a name with a `_` before it
abbrev pub underscored : List ℕ → List ℕ
underscored name = codes "_" ++ name

-- no symbol of a live slice has the name, and one has it with a `_` before it
pub record IsUnderscored (content : Operations) (name : List ℕ) : Type 0 where
  pub nowhere : (row : NameRecord) → IsNameRow content name row → ⊥
  pub somewhere : (row : NameRecord) × IsNameRow content (underscored name) row

-- the Boolean states whether that holds
abbrev pub SaysUnderscored : Operations → List ℕ → Bool → Type 0
SaysUnderscored content name true = IsUnderscored content name
SaysUnderscored content name false = IsUnderscored content name → ⊥

-- the answer of a content for a name
abbrev pub Answers : Operations → List ℕ → Status → List ℕ → Bool → Type 0
Answers content name status text is_underscored =
    TellsNamed content name status text × SaysUnderscored content name is_underscored

-- ARCHIVE and the others are the texts of contents, and this is the report of their join for the name.
abbrev pub MakesNamed : {R S : Type 0} → Reader R → List (Reader S) → List ℕ → Status → List ℕ → Type 0
MakesNamed archive others name status text = HoldTogether archive others (λ o. TellsNamed o name status text)

-- `name`, over these archives
abbrev pub name : {R S : Type 0} → Reader R → List (Reader S) → List ℕ → Query
name archive others sought = record {
  Makes = MakesNamed archive others sought;
  Refuses = AreRefused archive others;
  Unfailed = AreUnfailed archive others;
}
