use Rattle.std.proofs.Common.{arith}
use Rattle.dwarf_entries.proofs.SizeLemmas.{after_step, after_fails, after_done}
use Rattle.dwarf_entries.proofs.declaration.after_pairs.Goals as goal

pub returns-in_default : goal.returns-in_default
returns-in_default c =
    after_fails c.args.version c.args.pairs.now c.loop-pair.pair-index c.loop-pair.rest.now _ (omega arith) c.in_default.ensures c.loop-pair.invariant

pub loop-pair-preserved : goal.loop-pair-preserved
loop-pair-preserved c =
    after_step c.args.version c.args.pairs.now c.loop-pair.pair-index c.loop-pair.rest.now c.in-Some.after.now _
    (omega arith) c.in-Some.ensures c.loop-pair.invariant

pub returns : goal.returns
returns c = after_done c.args.version c.args.pairs.now c.loop-pair.pair-index c.loop-pair.rest.now _ (omega arith) c.loop-pair.invariant
