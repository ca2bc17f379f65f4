use Rattle.table_source_frames_build.proofs.FirstUsesLemmas.{zero_number}
use Rattle.table_source_frames_build.proofs.first_uses.FirstUses.number_of.Goals as goal

pub returns-then-number-eq0 : goal.returns-then-number-eq0
returns-then-number-eq0 c = zero_number c.args.self.now.given.items c.args.self.now.order.items c.args.number c.args.self.now.are_given c.if-number-eq0.true
