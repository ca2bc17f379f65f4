use Rattle.std.proofs.Common.{arith, sym}
use Rattle.dwarf_entries.proofs.SizeLemmas.{size_start, size_step, size_done}
use Rattle.dwarf_entries.proofs.declaration.total_size.Goals as goal

pub loop-pair-init : goal.loop-pair-init
loop-pair-init c = size_start c.args.pairs.now

pub loop-pair-preserved : goal.loop-pair-preserved
loop-pair-preserved c =
    size_step c.args.pairs.now c.loop-pair.pair-index c.loop-pair.size _ _ _ (omega arith) (sym c.in-Some.ensures) (omega arith) c.loop-pair.invariant

pub returns : goal.returns
returns c = sym (size_done c.args.pairs.now c.loop-pair.pair-index c.loop-pair.size (omega arith) c.loop-pair.invariant)
