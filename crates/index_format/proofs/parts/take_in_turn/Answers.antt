use Rattle.std.proofs.Common.{◌≡◌, ◌∷◌, ◌∙◌, List, length, map, refl, ap, arith, rules}
use Rattle.std.specs.Vec.Iter.{into_iter_items, into_iter_len}
use Rattle.archive_core.specs.Content.{with_records}
use Rattle.archive_core.specs.Record.{record_bytes}
use Rattle.archive_core.specs.declared.operations.Operation.{Operation}
use Rattle.archive_core.proofs.Taken.{at_first, one_taken}
use Rattle.index_format.proofs.Gathered.{all_taken}
use Rattle.index_format.proofs.parts.take_in_turn.Goals as goal

pub operations-init : goal.operations-init
operations-init g c = record { can = tt; finite = tt; way = at_first (g.A.Join.content c.args.part.now) _ _ refl; long = search rules }

pub operations-preserved : goal.operations-preserved
operations-preserved g c =
    let at = c.operations in
    let left : List Operation = into_iter_items at.operation-iterator in
    let rest : List Operation = into_iter_items c.next.new.self in
    let steps : left ≡ c.in-Some.operation ∷ rest = c.in-Some.ensures.steps.0 in
    record {
      can = tt;
      finite = tt;
      way = one_taken (g.A.Join.content c.args.part.now) (g.A.Join.content at.part) (g.A.Join.content c.take.new.self)
          (into_iter_items c.into_iter-operation-iterator.result) left rest c.in-Some.operation at.invariant.way steps
          c.in_ok-take.ensures.taken;
      long =
          let was : into_iter_len at.operation-iterator ≡ length left = at.invariant.long in
          let gone = c.in-Some.ensures.steps.1 in
          let short : length left ≡ length (c.in-Some.operation ∷ rest) = ap length steps in
          omega arith;
    }

pub returns : goal.returns
returns g c =
    let at = c.operations in
    let left : List Operation = into_iter_items at.operation-iterator in
    let long : into_iter_len at.operation-iterator ≡ length left = at.invariant.long in
    let none : length left ≡ 0 = omega (arith, long, c.in-None.ensures.steps) in
    all_taken (g.A.Join.content c.args.part.now) (g.A.Join.content at.part) (into_iter_items c.into_iter-operation-iterator.result) left at.invariant.way none
    ∙ ap (λ (all : List Operation). with_records (g.A.Join.content c.args.part.now) (map record_bytes all))
    c.into_iter-operation-iterator.ensures.into_iter_gives.0
