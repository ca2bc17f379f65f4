use Rattle.std.proofs.Common.{◌≡◌, ◌∙◌, Err, ap, subst}
use Rattle.command_common.specs.declared.faults.CommandFault.TheVariants.{Input}
use Rattle.cli_files.specs.InputStates.{opening_told}
use Rattle.cli_run.specs.{Openings.IsRefusedByDisk, Plans.Executes, Plans.readers_by}
use Rattle.cli_run.proofs.Openings.{also_told, are_lazy, refused_so, told_as}
use Rattle.cli_run.proofs.Spared.{spared}
use Rattle.cli_run.proofs.laws.one_opening.Goals as goal

pub returns : goal.returns
returns g c = λ told also line plan another before behind first last out more report told_also result other notes
    noted old new name why reason input there is are same same_other named named_there one so.
    let found = refused_so told behind is.are_lazy name is.ended result is.tells
    (same ∙ ap (λ w. Err (Input name w)) so)
    (λ at ended. spared (opening_told told) plan (readers_by told.left told.failures before behind)
    (readers_by told.whole told.failures before behind) out report at
    (subst (λ r. Executes (opening_told told) plan (readers_by told.left told.failures before behind)
    (readers_by told.whole told.failures before behind) out report r) ended is.executes)) in
    let input_is : found.0 ≡ input = cc in
    also_told told also last name input there reason (subst (IsRefusedByDisk told) input_is found.2)
    (are_lazy also last name there are.are_lazy named_there) one named_there
    (told_as also last name reason are.ended other are.tells same_other)
