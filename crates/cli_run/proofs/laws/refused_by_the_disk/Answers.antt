use Rattle.std.proofs.Common.{subst}
use Rattle.cli_files.specs.InputStates.{opening_told}
use Rattle.cli_run.specs.Plans.{Executes, readers_by}
use Rattle.cli_run.proofs.{Openings.refused_so, Spared.spared}
use Rattle.cli_run.proofs.laws.refused_by_the_disk.Goals as goal

pub returns : goal.returns
returns g c = λ told line plan before behind out report result notes noted name is same.
    refused_so told behind is.are_lazy name is.ended result is.tells same
    (λ at so. spared (opening_told told) plan (readers_by told.left told.failures before behind)
    (readers_by told.whole told.failures before behind) out report at
    (subst (λ r. Executes (opening_told told) plan (readers_by told.left told.failures before behind)
    (readers_by told.whole told.failures before behind) out report r) so is.executes))
