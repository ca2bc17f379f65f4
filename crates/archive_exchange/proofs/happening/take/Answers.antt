use Rattle.std.proofs.Common.{◌∙◌}
use Rattle.archive_exchange.proofs.Gained.{rows_are}
use Rattle.archive_exchange.proofs.Followed.{took, not_taken, kept_as}
use Rattle.archive_exchange.proofs.happening.take.Goals as goal

pub returns-in-Ok : goal.returns-in-Ok
returns-in-Ok g c = λ i is texts file. took i c.args.file.now is texts c.args.site.now c.take_file.new.self _
    (c.one_take_fault.ensures.none c.args.file.now) file c.in-Ok.ensures.accepted c.in-Ok.ensures.held
    c.in-Ok.ensures.saved
    (λ answer e. (_, c.in-Ok.ensures.rows ∙ rows_are c.args.file.now c.args.site.now.held c.in-Ok.ensures.accepted, e))

pub returns-in_default : goal.returns-in_default
returns-in_default g c = λ i is texts file. kept_as _ _ _ _ _ _ (c.in-Err.ensures.kept c.in_default.not-OutOfMemory)
    (not_taken i c.args.file.now is texts c.args.site.now c.in-Err.fault (c.one_take_fault.ensures.none c.args.file.now)
    (c.one_take_fault.ensures.one c.args.file.now) file c.in-Err.ensures.refused c.in_default.not-OutOfMemory)
