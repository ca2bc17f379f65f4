use mir.Val.{bool_byte}
use Rattle.std.proofs.Common.{Bool, ◌≡◌, ℕ, ◌∷◌, ◌+◌, List, length, map, ap, ◌∙◌, arith, rules, if◌then◌else◌}
use Rattle.std.specs.Vec.Iter.{into_iter_items, into_iter_len}
use Rattle.std.proofs.lemmas.List.{nil_from_length}
use Rattle.std.proofs.lemmas.Result.{err_from_is_err_and}
use Rattle.archive_core.specs.Content.{Operations, changes, with_records, new_among}
use Rattle.archive_core.specs.Record.{record_bytes}
use Rattle.archive_core.specs.declared.operations.Operation.{Operation}
use Rattle.archive_index.proofs.Held.{content_with}
use Rattle.archive_core.proofs.Taken.{IsCounted, one_counted, all_counted, counted_below, taken_in_part}
use Rattle.archive_index.proofs.taking.take_in_turn.Goals as goal

byte_is : (b : Bool) → bool_byte b ≡ (if b then 1 else 0)
byte_is b = grind arith

pub overflow_add-new : goal.overflow_add-new
overflow_add-new g c =
    let at = c.operations in
    let steps : into_iter_items at.operation-iterator ≡ c.in-Some.operation ∷ into_iter_items c.next.new.self = c.in-Some.ensures.steps.0 in
    let least = counted_below (g.A.Join.content c.args.archive.now) (g.A.Join.content at.archive)
    (into_iter_items c.into_iter-operation-iterator.result) (into_iter_items at.operation-iterator)
    (into_iter_items c.next.new.self) c.in-Some.operation at.new at.invariant.way steps in
    let more : c.from-new.result ≡ (if changes (g.A.Join.content at.archive) (record_bytes c.in-Some.operation) then 1
    else 0) = c.from-new.ensures ∙ byte_is c.in_ok-changed.changed
    ∙ ap (λ b. if b then 1 else 0) c.in_ok-changed.ensures.answer in
    let all : length (into_iter_items c.into_iter-operation-iterator.result) ≡ length c.args.operations.items =
    ap length c.into_iter-operation-iterator.ensures.into_iter_gives.0 in
    omega (arith, least, more, all, c.args.operations.ok.0, c.args.operations.ok.1, c.args.operations.small)

pub operations-preserved : goal.operations-preserved
operations-preserved g c =
    let at = c.operations in
    let left : List Operation = into_iter_items at.operation-iterator in
    let rest : List Operation = into_iter_items c.next.new.self in
    let steps : left ≡ c.in-Some.operation ∷ rest = c.in-Some.ensures.steps.0 in
    let now = g.A.Join.content at.archive in
    let next = g.A.Join.content c.take.new.self in
    let more : c.from-new.result ≡ (if changes now (record_bytes c.in-Some.operation) then 1 else 0) =
    c.from-new.ensures ∙ byte_is c.in_ok-changed.changed
    ∙ ap (λ b. if b then 1 else 0) c.in_ok-changed.ensures.answer in
    record {
      can = tt;
      finite = tt;
      way = one_counted (g.A.Join.content c.args.archive.now) now next
          (into_iter_items c.into_iter-operation-iterator.result) left rest c.in-Some.operation at.new
          (at.new + c.from-new.result) at.invariant.way steps c.in_ok-changed.ensures.taken (ap (λ n. at.new + n) more);
      content = content_with now next c.in-Some.operation at.invariant.content (search rules) c.in_ok-changed.ensures.taken;
      long = omega (arith, at.invariant.long, c.in-Some.ensures.steps.1, ap length steps);
    }

pub returns-in_err-changed-clause-taken : goal.returns-in_err-changed-clause-taken
returns-in_err-changed-clause-taken g c =
    let p = err_from_is_err_and c.from_residual.result c.from_residual.ensures.1 in
    let old = g.A.Join.content c.args.archive.now in
    let new = g.A.Join.content c.take.new.self in
    let part = taken_in_part old (g.A.Join.content c.operations.archive) new
    (into_iter_items c.into_iter-operation-iterator.result) (into_iter_items c.operations.operation-iterator)
    c.operations.invariant.content c.operations.invariant.way.way c.in_err-changed.ensures.refused in
    rw (p.1, ← c.into_iter-operation-iterator.ensures.into_iter_gives.0) part

-- where none is left, each was taken, and those that were new are counted
all_taken : (old now : Operations) (all left given : List Operation) (new : ℕ) → IsCounted old now all left new
    → length left ≡ 0 → all ≡ given → (now ≡ with_records old (map record_bytes given))
    × (new ≡ new_among old (map record_bytes given))
all_taken old now all left given new at none is = let done = rw (nil_from_length left none) at at.way.content
    in rw (← is) (done, all_counted old now all left new at none)

pub returns-clause-taken : goal.returns-clause-taken
returns-clause-taken g c =
    let at = c.operations in
    let left : List Operation = into_iter_items at.operation-iterator in
    let long : into_iter_len at.operation-iterator ≡ length left = at.invariant.long in
    all_taken (g.A.Join.content c.args.archive.now) (g.A.Join.content at.archive)
    (into_iter_items c.into_iter-operation-iterator.result) left c.args.operations.items at.new at.invariant.way
    (omega (arith, long, c.in-None.ensures.steps)) c.into_iter-operation-iterator.ensures.into_iter_gives.0
