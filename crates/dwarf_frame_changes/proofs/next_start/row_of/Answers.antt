use Rattle.std.proofs.Common.{◌-◌, None, arith}
use Rattle.dwarf_frame_changes.proofs.StepWalks.{step_none, step_some}
use Rattle.dwarf_frame_changes.proofs.next_start.row_of.Goals as goal

pub returns-then-count-eq0 : goal.returns-then-count-eq0
returns-then-count-eq0 c = λ address is.
    step_none None c.args.rows.now.starts.items c.args.rows.now.rows.items address c.args.count c.requires.same c.if-count-eq0.true is

pub returns : goal.returns
returns c = λ address is.
    step_some None c.index.result.now c.args.rows.now.starts.items c.args.rows.now.rows.items address c.args.count (c.args.count - 1) c.requires.same
    (omega (arith, c.if-count-eq0.false)) (omega (arith, c.if-count-eq0.false, c.requires.within)) c.index.ensures is
