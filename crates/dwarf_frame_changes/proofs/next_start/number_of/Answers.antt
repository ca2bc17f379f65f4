use Rattle.std.proofs.Common.{◌-◌, arith}
use Rattle.std.proofs.lemmas.List.{get_or_default}
use Rattle.dwarf_frame_changes.proofs.StepWalks.{step_none, step_some}
use Rattle.dwarf_frame_changes.proofs.next_start.number_of.Goals as goal

pub returns-then-count-eq0-clause-is : goal.returns-then-count-eq0-clause-is
returns-then-count-eq0-clause-is c = λ address is.
    step_none 0 c.args.links.now.starts.items c.args.links.now.numbers.items address c.args.count c.requires.same c.if-count-eq0.true is

pub returns-clause-is : goal.returns-clause-is
returns-clause-is c = λ address is.
    step_some 0 c.index.result.now c.args.links.now.starts.items c.args.links.now.numbers.items address c.args.count (c.args.count - 1) c.requires.same
    (omega (arith, c.if-count-eq0.false)) (omega (arith, c.if-count-eq0.false, c.requires.within)) c.index.ensures is

pub returns-clause-most : goal.returns-clause-most
returns-clause-most c = λ most all.
    let n = c.args.count - 1 in
    let l = all n (omega (arith, c.if-count-eq0.false, c.requires.within)) in
    let e = get_or_default c.args.links.now.numbers.items n c.index.result.now 0 (omega (arith, c.if-count-eq0.false, c.requires.within)) in
    omega (arith, l, e, c.index.ensures)
