-- The steps of a command that writes a slice: the results of choosing the slice, and of sending it to the draft of OUT.
use Rattle.std.specs.Prelude.{◌≡◌, ℕ, List, [], length, Result, Ok, Err, ◌⊎◌}
use Rattle.archive_core.specs.declared.find.FindRow.{FindRow}
use Rattle.text_reports.specs.Finds.{find_lines}
use Rattle.command_common.specs.Ends.{HasTaken}
use Rattle.command_common.specs.Inputs.{ReadsInputs}
use Rattle.command_common.specs.Outputs.{FailsBehind, Takes, Writer}
use Rattle.command_common.specs.declared.faults.CommandFault.{CommandFault}
use Rattle.command_common.specs.declared.faults.CommandFault.TheVariants.{Input, Output, Report, OutOfMemory}
use Rattle.command_extract.specs.Extract.{Extraction}
use Rattle.command_extract.specs.declared.choice.Choice.{Choice}
use Rattle.command_extract.specs.declared.choice.Choice.TheVariants.{One, Undecided}
use Rattle.command_extract.specs.declared.choice.Chosen.{Chosen}

-- a command is stopped by this fault before its draft received bytes
abbrev pub StopsBefore : (Writer → Extraction) → CommandFault → Type 0
StopsBefore command fault = (draft : Writer) → Takes draft [] → (command draft).writes.Stops fault

-- its inputs are accepted and lack the wanted slice, these are the rows of those that answer, and no reader failed
abbrev pub LacksSlices : (Writer → Extraction) → List FindRow → Type 0
LacksSlices command rows = (draft : Writer) → (command draft).writes.Unfailed × (command draft).Lacks (find_lines rows)

-- the slice is found, or the inputs have none that is wanted
abbrev pub IsChosenFor : {P : Type 0} → (Writer → Extraction) → (Chosen P → Type 0) → Choice P → Type 0
IsChosenFor command IsFound (One chosen) = IsFound chosen
IsChosenFor command IsFound (Undecided rows) = LacksSlices command rows.items

-- the result of choosing: such a choice; or the command is stopped before OUT is created, by a refused input or by want
-- of memory, which may stop it after a choice too
abbrev pub Chooses : {P : Type 0} → (Writer → Extraction) → (Chosen P → Type 0) → Result (Choice P) CommandFault
    → Type 0
Chooses command IsFound result =
    ReadsInputs result (IsChosenFor command IsFound) (λ at why. StopsBefore command (Input at why))
    (StopsBefore command OutOfMemory)

-- The draft received the slice, which the command makes with this line.
pub record SendsWhole (command : Writer → Extraction) (told : List ℕ) (size : ℕ) (draft : Writer) : Type 0 where
  pub slice : List ℕ
  pub makes : (out : Writer) → (command out).writes.Makes slice told
  pub unfailed : (out : Writer) → (command out).writes.Unfailed
  pub long : length slice ≡ size
  pub took : Takes draft slice

-- The draft failed after the first n bytes of such a slice.
pub record SendsFirst (command : Writer → Extraction) (told : List ℕ) (draft : Writer) (fault : CommandFault)
    : Type 0 where
  pub slice : List ℕ
  pub makes : (out : Writer) → (command out).writes.Makes slice told
  pub unfailed : (out : Writer) → (command out).writes.Unfailed
  pub n : ℕ
  pub fault_is : fault ≡ Output n
  pub failed : FailsBehind draft slice n

-- The command is stopped while the draft receives bytes.
pub record IsStoppedSending (command : Writer → Extraction) (draft : Writer) (fault : CommandFault) : Type 0 where
  pub stops : (command draft).writes.Stops fault
  pub taken : HasTaken draft fault
  pub not_told : (n : ℕ) → fault ≡ Report n → ⊥

-- the result of sending the chosen slice, which has `size` bytes and the line `told`
abbrev pub Sends : (Writer → Extraction) → List ℕ → ℕ → Writer → Result (Unit {0}) CommandFault → Type 0
Sends command told size draft (Ok _) = SendsWhole command told size draft
Sends command told size draft (Err fault) = IsStoppedSending command draft fault ⊎ SendsFirst command told draft fault
