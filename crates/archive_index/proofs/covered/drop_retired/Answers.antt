use Rattle.std.proofs.Common.{◌≡◌, ◌+◌, ◌++◌, [], ◌∷◌, map, filter, take, drop, true, false, not, sym, ap, ◌∙◌, arith}
use Rattle.std.proofs.lemmas.List.{take-append-drop, drop-drop}
use Rattle.std.proofs.lemmas.List.Elements.{filter-append}
use Rattle.std.specs.FinSet.{from_list}
use Rattle.archive_core.specs.Content.{is_covered}
use Rattle.archive_core.specs.Record.{record_bytes}
use Rattle.archive_core.specs.declared.operations.Operation.{Operation}
use Rattle.archive_core.specs.declared.operations.Operation.TheVariants.{Retire}
use Rattle.archive_index.proofs.Falling.{stays, goes, written_back}
use Rattle.archive_index.proofs.Put.{held_alone}
use Rattle.archive_index.proofs.Uncovered.{left_by, front_left, back_left}
use Rattle.archive_index.proofs.covered.drop_retired.Goals as goal

pub of-by-requires : goal.of-by-requires
of-by-requires c = rw c.retirement.ensures.is (held_alone (Retire c.args.key.now c.args.digest.now) c.retirement.ensures.operation)

pub loop-index-init : goal.loop-index-init
loop-index-init c =
    let old = c.args.operations.now.items in
    let start = c.range_of-start.result.0 in
    let count = c.range_of-start.result.1 in
    let same = written_back old c.keep_digests_under.new.operations c.args.operations.now.len
    (c.keep_digests_under.ensures ∙ c.deref_mut.ensures.value) (omega (arith, c.args.operations.now.ok.0)) in
    let run = rw (c.deref.ensures.value, same) at c.range_of-start.ensures.range in
    let behind = back_left c.args.key.now c.args.digest.now old start count c.retirement.ensures.operation.0 c.requires.are run in
    record {
      from = omega arith;
      old = rw (c.deref.ensures.value, same) at c.range_of-start.ensures.within;
      items = same ∙ sym (ap (λ l. take (start + count) old ++ l) (rw (drop-drop count start old) at behind) ∙ take-append-drop (start + count) old);
    }

pub loop-index-preserved-then-retires_operation : goal.loop-index-preserved-then-retires_operation
loop-index-preserved-then-retires_operation c =
    let kept = left_by c.args.key.now c.args.digest.now in
    let only = c.of-by.ensures ∙ ap (λ (o : Operation). from_list (map record_bytes (o ∷ []))) c.retirement.ensures.is in
    let test : kept c.index.result.now ≡ false = ap (λ s. not (is_covered s (record_bytes c.index.result.now)))
    (sym only) ∙ ap not (sym c.retires_operation.ensures ∙ c.if-retires_operation.true) in
    record {
      from = omega arith;
      old = omega (arith, c.loop-index.invariant.old);
      items = c.drop_at.ensures ∙ goes kept c.args.operations.now.items c.loop-index.operations.items c.loop-index.index
          c.index.result.now (omega arith) c.loop-index.invariant.old c.loop-index.invariant.items c.index.ensures test;
    }

pub loop-index-preserved : goal.loop-index-preserved
loop-index-preserved c =
    let kept = left_by c.args.key.now c.args.digest.now in
    let only = c.of-by.ensures ∙ ap (λ (o : Operation). from_list (map record_bytes (o ∷ []))) c.retirement.ensures.is in
    let test : kept c.index.result.now ≡ true = ap (λ s. not (is_covered s (record_bytes c.index.result.now)))
    (sym only) ∙ ap not (sym c.retires_operation.ensures ∙ c.if-retires_operation.false) in
    record {
      from = omega arith;
      old = omega (arith, c.loop-index.invariant.old);
      items = stays kept c.args.operations.now.items c.loop-index.operations.items c.loop-index.index c.index.result.now
          (omega arith) c.loop-index.invariant.old c.loop-index.invariant.items c.index.ensures test;
    }

pub returns : goal.returns
returns c =
    let old = c.args.operations.now.items in
    let start = c.range_of-start.result.0 in
    let same = written_back old c.keep_digests_under.new.operations c.args.operations.now.len
    (c.keep_digests_under.ensures ∙ c.deref_mut.ensures.value) (omega (arith, c.args.operations.now.ok.0)) in
    let run = rw (c.deref.ensures.value, same) at c.range_of-start.ensures.range in
    let kept = left_by c.args.key.now c.args.digest.now in
    let at : c.loop-index.index ≡ start = omega (arith, c.loop-index.invariant.from) in
    c.loop-index.invariant.items
    ∙ ap (λ n. take n old ++ filter kept (drop n old)) at
    ∙ ap (λ l. l ++ filter kept (drop start old)) (sym
    (front_left c.args.key.now c.args.digest.now old start c.range_of-start.result.1
    c.retirement.ensures.operation.0 c.requires.are run))
    ∙ sym (filter-append kept (take start old) (drop start old))
    ∙ ap (filter kept) (take-append-drop start old)
