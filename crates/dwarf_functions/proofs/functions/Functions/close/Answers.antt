use Rattle.std.proofs.Common.{refl, arith}
use Rattle.dwarf_functions.proofs.ClosingLemmas.{closed_from_end, closed_from_next, closes_all, closes_shallow}
use Rattle.dwarf_functions.proofs.functions.Functions.close.Goals.{then-opened-test+else-index-depth, else-opened-test}
use Rattle.dwarf_functions.proofs.functions.Functions.close.Goals as goal

pub opened-init : goal.opened-init
opened-init c = record {
  ranges = refl;
  origins = refl;
  so_far = closed_from_end c.args.depth c.len-left.result c.args.opened.now.items c.args.self.now.functions.items (omega (arith, c.args.opened.now.ok.0));
}

pub opened-preserved : goal.opened-preserved
opened-preserved c = record {
  ranges = c.opened.invariant.ranges;
  origins = c.opened.invariant.origins;
  so_far = closed_from_next c.args.depth c.opened.left c.args.opened.now.items c.args.self.now.functions.items c.opened.self.functions.items
      c.index.result.now c.index-in-opened.result.now c.index_mut.result.now c.len-count.result
      c.opened-test.true c.requires c.index.ensures c.if-index-depth.true c.index-in-opened.ensures c.index_mut.ensures.value
      (omega (arith, c.args.self.now.functions.ok.0)) c.opened.invariant.so_far;
}

pub returns-clause-closed : goal.returns-clause-closed
returns-clause-closed c =
    elim c.opened-test.branch [
      | then-opened-test+else-index-depth w ↦
          closes_shallow c.args.depth c.opened.left c.args.opened.now.items c.truncate.new.self.items
          c.args.self.now.functions.items c.opened.self.functions.items
          w.index.result.now c.truncate.ensures.items w.opened-test.true w.index.ensures w.if-index-depth.false c.opened.invariant.so_far
      | else-opened-test w ↦
          closes_all c.args.depth c.opened.left c.args.opened.now.items c.truncate.new.self.items c.args.self.now.functions.items c.opened.self.functions.items
          c.truncate.ensures.items (omega (arith, w.opened-test.false)) c.opened.invariant.so_far
    ]
