use Rattle.std.proofs.Common.{arith}
use Rattle.std.proofs.lemmas.Result.{err_from_is_err_and}
use Rattle.macho_image.proofs.Walk.{reached_next, reached_fault, reached_end, reached_all}
use Rattle.macho_image.proofs.contents.read_load_commands.Goals as goal

pub returns-in_default-clause-faulty : goal.returns-in_default-clause-faulty
returns-in_default-clause-faulty c =
    reached_end _ _ _ _ _ c.loop-number.invariant c.args.count c.loop-number-test.true c.in_default.ensures

pub returns-in_err-contents-clause-faulty : goal.returns-in_err-contents-clause-faulty
returns-in_err-contents-clause-faulty c =
    let p = err_from_is_err_and c.from_residual.result c.from_residual.ensures.1 in
    rw (p.1, p.2) (reached_fault _ _ _ _ _ c.loop-number.invariant _ _ c.in-Some.ensures.0 c.in-Some.ensures.1
    c.args.count _ c.loop-number-test.true c.in_err-contents.ensures.faulty)

pub loop-number-preserved : goal.loop-number-preserved
loop-number-preserved c =
    rw (c.in_ok-contents.ensures.uuid, c.in_ok-contents.ensures.symtab)
    (reached_next _ _ _ _ _ c.loop-number.invariant _ _ c.in-Some.ensures.0 c.in-Some.ensures.1 c.in_ok-contents.ensures.sound)

pub returns-clause-sound : goal.returns-clause-sound
returns-clause-sound c =
    reached_all c.args.area.now c.loop-number.number c.args.count c.loop-number.rest.now c.loop-number.contents.uuid
    c.loop-number.contents.symtab c.loop-number.invariant (omega arith)
