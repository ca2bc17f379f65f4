-- The question of a command to its inputs, and the text of the answer.
use Rattle.std.specs.Prelude.{◌≡◌, ℕ, List, [], ◌∷◌}
use Rattle.archive_core.specs.Summary.{Entries}
use Rattle.archive_core.specs.declared.find.FindRow.{FindRow}
use Rattle.archive_records.specs.Text.{summary_text}
use Rattle.command_common.specs.Ends.{Command, Query}
use Rattle.command_common.specs.Found.{found_status}
use Rattle.command_common.specs.Outputs.{summary_report_of}
use Rattle.command_common.specs.declared.faults.InputName.{InputName}
use Rattle.command_common.specs.declared.faults.Status.{Status}
use Rattle.command_common.specs.declared.faults.Why.{Why}

-- A question to inputs: the values that accepted inputs have, which input is refused and why, and that no reader fails.
pub record Asked (T : Type 0) : Type 1 where
  pub Has : T → Type 0
  pub Refuses : InputName → Why → Type 0
  pub Unfailed : Type 0

-- without inputs nothing is accepted or refused; otherwise the question to the first input and the rest
abbrev pub of_first : {X T : Type 0} → (X → List X → Asked T) → List X → Asked T
of_first asked [] = record { Has = λ value. ⊥; Refuses = λ at why. ⊥; Unfailed = ⊥ }
of_first asked (x ∷ xs) = asked x xs

-- Inputs have these rows; `status` is the status of the rows, and `text` has their lines.
pub record PrintsRows (Have : List FindRow → Type 0) (lines : List FindRow → List ℕ) (status : Status) (text : List ℕ)
    : Type 0 where
  pub rows : List FindRow
  pub have : Have rows
  pub status_is : status ≡ found_status rows
  pub text_is : text ≡ lines rows

-- the command that prints these lines for the rows that it asks for
abbrev pub prints_rows : (List FindRow → List ℕ) → Asked (List FindRow) → Query
prints_rows lines asked = record {
  Makes = PrintsRows asked.Has lines;
  Refuses = asked.Refuses;
  Unfailed = asked.Unfailed;
}

-- Inputs have this summary; `text` is its text, and `told` the line with its sizes.
pub record WritesSummary (Have : Entries → Type 0) (text told : List ℕ) : Type 0 where
  pub summary : Entries
  pub have : Have summary
  pub text_is : text ≡ summary_text summary
  pub told_is : told ≡ summary_report_of summary

-- the command that writes the summary that it asks for
abbrev pub writes_summary : Asked Entries → Command
writes_summary asked = record {
  Makes = WritesSummary asked.Has;
  Refuses = asked.Refuses;
  Unfailed = asked.Unfailed;
}
