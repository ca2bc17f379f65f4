use Rattle.std.proofs.Common.{arith, sym}
use Rattle.table_source_frames_build.proofs.FirstUsesLemmas.{none_after, some_after, on_same}
use Rattle.table_source_frames_build.proofs.first_uses.FirstUses.take_some.Goals as goal

pub returns-then-number-eq0-clause-taken : goal.returns-then-number-eq0-clause-taken
returns-then-number-eq0-clause-taken c = sym (none_after c.args.self.now.order.items c.args.number c.if-number-eq0.true)

pub returns-clause-taken : goal.returns-clause-taken
returns-clause-taken c = on_same c.take.result _ _ _ (some_after c.args.self.now.order.items c.args.number (omega arith)) c.take.ensures.taken
