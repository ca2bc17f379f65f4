use Rattle.std.proofs.Common.{◌≡◌, ◌∷◌, List, length, refl, ap, arith, rules}
use Rattle.std.specs.Vec.Iter.{into_iter_items}
use Rattle.std.proofs.lemmas.Result.{err_from_is_err_and}
use Rattle.archive_core.specs.declared.operations.Operation.{Operation}
use Rattle.archive_index.proofs.Held.{content_with}
use Rattle.archive_core.proofs.Taken.{at_first, one_taken, taken_in_part}
use Rattle.archive_index.proofs.plain.PlainArchive.take_in_turn.Goals as goal

pub operations-init : goal.operations-init
operations-init c = record { can = tt; finite = tt; way = at_first c.args.self.now _ _ refl; content = c.requires; long = search rules }

pub operations-preserved : goal.operations-preserved
operations-preserved c =
    let at = c.operations in
    let left : List Operation = into_iter_items at.operation-iterator in
    let rest : List Operation = into_iter_items c.next.new.self in
    let steps : left ≡ c.in-Some.operation ∷ rest = c.in-Some.ensures.steps.0 in
    record {
      can = tt;
      finite = tt;
      way = one_taken c.args.self.now at.self c.take.new.self (into_iter_items c.into_iter-operation-iterator.result)
          left rest c.in-Some.operation at.invariant.way steps c.in_ok-take.ensures.taken;
      content = content_with at.self c.take.new.self c.in-Some.operation at.invariant.content (search rules) c.in_ok-take.ensures.taken;
      long = omega (arith, at.invariant.long, c.in-Some.ensures.steps.1, ap length steps);
    }

pub returns-in_err-take : goal.returns-in_err-take
returns-in_err-take c =
    let p = err_from_is_err_and c.from_residual.result c.from_residual.ensures.1 in
    let part = taken_in_part c.args.self.now c.operations.self c.take.new.self
    (into_iter_items c.into_iter-operation-iterator.result) (into_iter_items c.operations.operation-iterator)
    c.operations.invariant.content c.operations.invariant.way c.in_err-take.ensures.refused in
    rw (p.1, ← c.into_iter-operation-iterator.ensures.into_iter_gives.0) part
