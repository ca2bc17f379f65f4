-- How a command ends, from what its parts did.
use Rattle.std.proofs.Common.{ℕ, refl, List, Result, Ok, Err, inr}
use Rattle.archive_core.specs.Content.{Operations}
use Rattle.archive_records.specs.Text.{written}
use Rattle.command_common.specs.declared.faults.CommandFault.{CommandFault}
use Rattle.command_common.specs.declared.faults.CommandFault.TheVariants.{Input, Output, Report, OutOfMemory}
use Rattle.command_common.specs.declared.faults.InputName.{InputName}
use Rattle.command_common.specs.declared.faults.Status.{Status}
use Rattle.command_common.specs.declared.faults.Why.{Why}
use Rattle.command_common.specs.Ends.{Ends, EndsReport, MakesArchive}
use Rattle.command_common.specs.Inputs.{Unfailed}
use Rattle.command_common.specs.Outputs.{Out, Writer, Publishes, Reports, report_of}

module _ (Makes : List ℕ → List ℕ → Type 0) (Refuses : InputName → Why → Type 0) (NoneFailed : Type 0) (out : Out) (report : Writer) where
  abbrev EndsSo : Result Status CommandFault → Type 0
  EndsSo result = Ends (record { Makes = Makes; Refuses = Refuses; Unfailed = NoneFailed }) out report result

  -- the inputs are accepted, and what they make is written and told
  pub given_out : (result : Result Status CommandFault) (text told : List ℕ)
      → NoneFailed → Makes text told → Publishes out report text told result → EndsSo result
  given_out (Err (Input place why)) text told u makes p = absurd p
  given_out (Err OutOfMemory) text told u makes p = (u, inr (record { text = text; told = told; makes = makes; published = p }))
  given_out result text told u makes p = (u, record { text = text; told = told; makes = makes; published = p })

-- the inputs are accepted, and the archive that they make is published
pub published : (Makes : Operations → List ℕ → Type 0) (Refuses : InputName → Why → Type 0) (NoneFailed : Type 0) (out : Out) (report : Writer)
    (result : Result Status CommandFault) (content : Operations) (lines : List ℕ)
    → NoneFailed → Makes content lines → Publishes out report (written content) (report_of content lines) result
    → Ends (record { Makes = MakesArchive Makes; Refuses = Refuses; Unfailed = NoneFailed }) out report result
published Makes Refuses NoneFailed out report result content lines u makes p =
    given_out (MakesArchive Makes) Refuses NoneFailed out report result (written content) (report_of content lines) u
    (record { content = content; lines = lines; makes = makes; text_is = refl; told_is = refl }) p

module _ (Makes : Status → List ℕ → Type 0) (Refuses : InputName → Why → Type 0) (NoneFailed : Type 0) (report : Writer) where
  abbrev EndsReportSo : Result Status CommandFault → Type 0
  EndsReportSo result = EndsReport (record { Makes = Makes; Refuses = Refuses; Unfailed = NoneFailed }) report result

  -- the input is accepted, and what it makes is reported
  pub reported : (result : Result Status CommandFault) (status : Status) (text : List ℕ)
      → NoneFailed → Makes status text → Reports report status text result → EndsReportSo result
  reported (Ok _) status text u makes p = (u, record { status = status; text = text; makes = makes; reported = p })
  reported (Err (Report n)) status text u makes p = (u, record { status = status; text = text; makes = makes; reported = p })
  reported result status text u makes p = absurd p
