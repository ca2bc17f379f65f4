-- A plan over inputs that are opened at their first read.
use Rattle.std.specs.Prelude.{◌≡◌, List, OnOk, length, Result}
use Rattle.cli_files.specs.InputStates.{AreLazyInputs, Told, opening_told}
use Rattle.cli_arguments.specs.{Inputs.Inputs, Inputs.of_kind, Lines.Line, declared.commands.Kind.Kind}
use Rattle.command_common.specs.declared.faults.{CommandFault.CommandFault, Status.Status}
use Rattle.command_common.specs.Outputs.{Outs, Writer}
use Rattle.cli_standard_error.specs.Names.{AreOfLine}
use Rattle.cli_run.specs.Unopened.{ReportsUnopened}
use Rattle.command_common.specs.declared.notes.Note.{Note}
use Rattle.cli_arguments.specs.{Plan.IsPlanOf, declared.plan.Plan.Plan}
use Rattle.cli_run.specs.Plans.{Executes, Notes, readers_by}

-- Each kind has the same number of inputs before and after.
abbrev pub AreAsMany : {S : Type 0} → Inputs S → Inputs S → Type 0
AreAsMany old new = (kind : Kind) → length (of_kind kind new) ≡ length (of_kind kind old)

-- The plan of a line had this result over inputs with the paths of the line, each of which was opened at its first
-- read, if it was read. If the plan succeeded, its notes were added to `notes`.
pub record Carried {S D T : Type 0} (told : Told S) (line : Line) (plan : Plan) (before behind : Inputs S)
    (out : Outs D T) (report : Writer) (result : Result Status CommandFault) (notes noted : List Note) : Type 0 where
  pub plan_is : IsPlanOf plan line
  pub waiting : AreOfLine told line before
  pub as_many : AreAsMany before behind
  pub are_lazy : (kind : Kind) → AreLazyInputs told (of_kind kind behind)
  pub ended : Result Status CommandFault
  pub executes : Executes (opening_told told) plan (readers_by told.left told.failures before behind)
      (readers_by told.whole told.failures before behind) out report ended
  pub notes_are : OnOk ended (Notes (opening_told told) plan
      (readers_by told.left told.failures before behind) notes noted)
  pub tells : ReportsUnopened told behind ended result
