use Rattle.std.proofs.Common.{◌+◌, ◌<◌, List, [], ◌∷◌, ◌++◌, length, map, get_or, not, sym, ap, ◌∙◌, arith}
use Rattle.std.specs.Prelude.{filter}
use Rattle.std.proofs.lemmas.List.{append-nil, append_assoc, get_or_default, length-map, map-append, take_all}
use Rattle.index_format.specs.Entry.{entry_bytes}
use Rattle.index_lookup.specs.Among.{EntryAt}
use Rattle.index_lookup.specs.InnerAnswering.{entry_at, is_retired}
use Rattle.index_lookup.proofs.Lists.{read_map}
use Rattle.index_lookup.proofs.RunLemmas.{length-placed_at, lives_of, passed_by, picked, placed_at}
use Rattle.index_lookup.proofs.live.gather.Goals as goal

pub run-init : goal.run-init
run-init c = sym (append-nil (map entry_at c.args.live.now.items))

pub returns : goal.returns
returns c =
    let ns = c.run_under.result.0.now in
    let items = c.run_under.result.1.now in
    let es = map entry_bytes items in
    let run = c.run_under.ensures.run in
    c.run.invariant
    ∙ ap (λ (ys : List EntryAt). map entry_at c.args.live.now.items ++ ys)
    (ap (filter (λ x. not (is_retired c.args.retired.now x.entry)))
    (take_all c.run.nth (placed_at c.args.input ns es)
    (omega (arith, length-placed_at c.args.input ns es run.many, length-map items entry_bytes, c.run-test.false)))
    ∙ lives_of c.args.input c.args.prefix.now c.args.retired.now c.args.index.now ns es run)

pub run-preserved-then-is_retired : goal.run-preserved-then-is_retired
run-preserved-then-is_retired c =
    let ns = c.run_under.result.0.now in
    let items = c.run_under.result.1.now in
    let es = map entry_bytes items in
    let many = c.run_under.ensures.run.many in
    let e = c.index-entries-nth.result in
    let lt : c.run.nth < length es = omega (arith, length-map items entry_bytes, c.run-test.true) in
    c.run.invariant
    ∙ ap (λ (ys : List EntryAt). map entry_at c.args.live.now.items ++ ys)
    (sym (passed_by c.args.input c.args.retired.now ns es c.run.nth (get_or ns c.run.nth 0) (entry_bytes e) c.is_retired.result many lt
    (get_or_default ns c.run.nth 0 (get_or ns c.run.nth 0) (omega (arith, lt, many)))
    (read_map entry_bytes items c.run.nth e c.run-test.true c.index-entries-nth.is) c.is_retired.ensures c.if-is_retired.true))

pub run-preserved : goal.run-preserved
run-preserved c =
    let ns = c.run_under.result.0.now in
    let items = c.run_under.result.1.now in
    let es = map entry_bytes items in
    let many = c.run_under.ensures.run.many in
    let e = c.index-entries-nth.result in
    let lt : c.run.nth < length es = omega (arith, length-map items entry_bytes, c.run-test.true) in
    let this : EntryAt = record { input = c.args.input; number = get_or ns c.run.nth 0; entry = entry_bytes e } in
    ap (map entry_at) c.in_ok-push.ensures.items
    ∙ map-append entry_at c.run.live.items _
    ∙ ap (λ (ys : List EntryAt). ys ++ this ∷ []) c.run.invariant
    ∙ append_assoc (map entry_at c.args.live.now.items) _ (this ∷ [])
    ∙ ap (λ (ys : List EntryAt). map entry_at c.args.live.now.items ++ ys)
    (sym (picked c.args.input c.args.retired.now ns es c.run.nth (get_or ns c.run.nth 0) (entry_bytes e) c.is_retired.result many lt
    (get_or_default ns c.run.nth 0 (get_or ns c.run.nth 0) (omega (arith, lt, many)))
    (read_map entry_bytes items c.run.nth e c.run-test.true c.index-entries-nth.is) c.is_retired.ensures c.if-is_retired.false))
