use Rattle.std.proofs.Common.{◌≡◌, Err, subst}
use Rattle.command_common.specs.declared.faults.CommandFault.TheVariants.{Input}
use Rattle.cli_run.specs.Unopened.{ReportsUnopened}
use Rattle.cli_files.specs.InputStates.{opening_told}
use Rattle.cli_run.specs.Plans.{Executes, readers_by}
use Rattle.cli_run.proofs.Spared.{spared}
use Rattle.cli_run.proofs.laws.unopened_inputs_are_told.Goals as goal

pub returns-clause-refused : goal.returns-clause-refused
returns-clause-refused g c = λ told line plan before behind out report result notes noted name why input
    refused is ended there stage.
    rw (there, stage) at (subst (λ r. ReportsUnopened told behind r result) ended is.tells)

pub returns-clause-wanting : goal.returns-clause-wanting
returns-clause-wanting g c = λ told line plan before behind out report result notes noted name why input
    is ended there stage.
    rw (there, stage) at (subst (λ r. ReportsUnopened told behind r result) ended is.tells)

pub returns-clause-opened : goal.returns-clause-opened
returns-clause-opened g c = λ told line plan before behind out report result notes noted name why input is
    ended there opened. (
      rw (there, opened) at (subst (λ r. ReportsUnopened told behind r result) ended is.tells),
      λ unopened. spared (opening_told told) plan (readers_by told.left told.failures before behind)
          (readers_by told.whole told.failures before behind) out report name
          (subst (λ r. Executes (opening_told told) plan (readers_by told.left told.failures before behind)
          (readers_by told.whole told.failures before behind) out report r)
          (subst (λ w. is.ended ≡ Err (Input name w)) unopened ended) is.executes),
    )
