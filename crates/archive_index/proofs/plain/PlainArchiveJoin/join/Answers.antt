use Rattle.std.proofs.Common.{subst}
use Rattle.std.proofs.lemmas.Result.{err_from_is_err_and}
use Rattle.archive_core.specs.Content.{IsContent}
use Rattle.archive_index.proofs.Held.{content_of_held}
use Rattle.archive_core.proofs.Joined.{joined, unmoved}
use Rattle.archive_index.proofs.Merged.{completed_is}
use Rattle.archive_index.proofs.plain.PlainArchiveJoin.join.Goals as goal

pub returns-in_err-missing-clause-refused : goal.returns-in_err-missing-clause-refused
returns-in_err-missing-clause-refused c =
    let p = err_from_is_err_and c.from_residual.result c.from_residual.ensures.1 in
    rw p.1 (unmoved c.args.self.now c.args.other.now (subst IsContent c.self.view_is (content_of_held c.self.inside.operations.items c.self.invariant)))

pub returns-in_err-append-clause-refused : goal.returns-in_err-append-clause-refused
returns-in_err-append-clause-refused c =
    let p = err_from_is_err_and c.from_residual-in_err-append.result c.from_residual-in_err-append.ensures.1 in
    rw (p.1, c.in_err-append.ensures.items, c.self.view_is)
    (unmoved c.args.self.now c.args.other.now (subst IsContent c.self.view_is
    (content_of_held c.self.inside.operations.items c.self.invariant)))

-- the operations of both that neither covers, in order
pub invariant_of-self-2 : goal.invariant_of-self-2
invariant_of-self-2 c =
    let missing = rw c.deref.ensures.value at c.in_ok-missing.ensures in
    (completed_is c.self.inside.operations.items c.other.inside.operations.items c.in_ok-missing.missing.items
    c.append.new.self.items c.drop_covered.new.operations.items c.order.new.operations.items c.args.self.now
    c.args.other.now c.lend.result
    c.self.invariant c.other.invariant c.self.view_is c.other.view_is missing c.in_ok-append.ensures.items
    c.lend.ensures.borrowed c.drop_covered.ensures.items c.order.ensures).held

pub returns-clause-joined : goal.returns-clause-joined
returns-clause-joined c =
    let missing = rw c.deref.ensures.value at c.in_ok-missing.ensures in
    let both = completed_is c.self.inside.operations.items c.other.inside.operations.items c.in_ok-missing.missing.items
    c.append.new.self.items c.drop_covered.new.operations.items c.order.new.operations.items c.args.self.now
    c.args.other.now c.lend.result
    c.self.invariant c.other.invariant c.self.view_is c.other.view_is missing c.in_ok-append.ensures.items
    c.lend.ensures.borrowed c.drop_covered.ensures.items c.order.ensures in
    let mine_is = subst IsContent c.self.view_is (content_of_held c.self.inside.operations.items c.self.invariant) in
    let theirs_is = subst IsContent c.other.view_is (content_of_held c.other.inside.operations.items c.other.invariant) in
    joined c.args.self.now c.args.other.now _ mine_is theirs_is both.is
