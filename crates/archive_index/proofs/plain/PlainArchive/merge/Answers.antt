use Rattle.std.proofs.Common.{not}
use Rattle.archive_core.specs.Content.{is_covered}
use Rattle.archive_index.proofs.Merged.{held_left, merged_is}
use Rattle.archive_index.proofs.plain.PlainArchive.merge.Goals as goal

pub invariant_of-self-2 : goal.invariant_of-self-2
invariant_of-self-2 c =
    rw (c.drop_covered.ensures.items, c.in_ok-reserve.ensures.items)
    (held_left (λ r. not (is_covered c.lend.result r)) c.self.inside.operations.items c.self.invariant)

-- each side's operations that the other does not cover, in order
pub invariant_of-self-3 : goal.invariant_of-self-3
invariant_of-self-3 c =
    let first = rw (c.in_ok-reserve.ensures.items, c.lend.ensures.borrowed) at c.drop_covered.ensures.items in
    (merged_is c.self.inside.operations.items c.other.inside.operations.items c.drop_covered.new.operations.items
    c.drop_covered-2.new.operations.items c.append.new.self.items c.order.new.operations.items c.args.self.now
    c.args.other c.lend-2.result
    c.self.invariant c.other.invariant c.self.view_is c.other.view_is first c.lend-2.ensures.borrowed
    c.drop_covered-2.ensures.items c.in_ok-append.ensures.items c.order.ensures).held

pub returns-clause-merged : goal.returns-clause-merged
returns-clause-merged c =
    let first = rw (c.in_ok-reserve.ensures.items, c.lend.ensures.borrowed) at c.drop_covered.ensures.items in
    (merged_is c.self.inside.operations.items c.other.inside.operations.items c.drop_covered.new.operations.items
    c.drop_covered-2.new.operations.items c.append.new.self.items c.order.new.operations.items c.args.self.now
    c.args.other c.lend-2.result
    c.self.invariant c.other.invariant c.self.view_is c.other.view_is first c.lend-2.ensures.borrowed
    c.drop_covered-2.ensures.items c.in_ok-append.ensures.items c.order.ensures).is
