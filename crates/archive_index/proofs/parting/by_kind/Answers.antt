use Rattle.std.proofs.Common.{◌≡◌, ◌∷◌, List, length, refl, ap, arith}
use Rattle.std.specs.FinSet.{from_list}
use Rattle.std.specs.Vec.Iter.{into_iter_items}
use Rattle.archive_core.specs.declared.operations.Operation.{Operation}
use Rattle.archive_index.proofs.Parted.{parting_none, parted}
use Rattle.archive_index.proofs.parting.by_kind.Goals as goal

pub operations-init : goal.operations-init
operations-init c =
    let all : List Operation = into_iter_items c.into_iter-operation-iterator.result in
    record {
      can = tt;
      finite = tt;
      way = λ old is. parting_none old all all c.none-parts.result.admissions.items
          c.none-parts.result.retirements.items (from_list c.none-seen.result) is refl c.none-parts.ensures.admissions
          c.none-parts.ensures.retirements (ap from_list c.none-seen.ensures);
      long = omega (arith, c.into_iter-operation-iterator.ensures.into_iter_gives.1, ap length c.into_iter-operation-iterator.ensures.into_iter_gives.0);
    }

pub operations-preserved : goal.operations-preserved
operations-preserved c =
    let at = c.operations in
    let left : List Operation = into_iter_items at.operation-iterator in
    let rest : List Operation = into_iter_items c.next.new.self in
    let all : List Operation = into_iter_items c.into_iter-operation-iterator.result in
    let steps : left ≡ c.in-Some.operation ∷ rest = c.in-Some.ensures.steps.0 in
    record {
      can = tt;
      finite = tt;
      way = λ old is. c.in_ok-put.ensures old all rest (rw steps at (at.invariant.way old is));
      long = omega (arith, at.invariant.long, c.in-Some.ensures.steps.1, ap length steps);
    }

pub returns : goal.returns
returns c =
    let at = c.operations in
    let none : length (into_iter_items at.operation-iterator) ≡ 0 = omega (arith, at.invariant.long, c.in-None.ensures.steps) in
    λ old made. rw (← c.into_iter-operation-iterator.ensures.into_iter_gives.0)
    (parted old _ _ at.parts.admissions.items at.parts.retirements.items (from_list at.seen)
    (at.invariant.way old made) none)
