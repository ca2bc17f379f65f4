use Rattle.std.proofs.Common.{◌+◌, ℕ, List, [], ◌∷◌, ◌++◌, map, sym, ap, ◌∙◌, arith}
use Rattle.std.proofs.lemmas.List.{append-nil, append_assoc, length-map, take_all}
use Rattle.index_format.specs.Entry.{entry_bytes}
use Rattle.index_format.proofs.PartLemmas.{numbered_entries}
use Rattle.index_lookup.specs.Among.{subject_of}
use Rattle.index_lookup.specs.InnerAnswering.{retires_under}
use Rattle.index_lookup.proofs.Lists.{read_map}
use Rattle.index_lookup.proofs.RunLemmas.{subjects_pushed}
use Rattle.index_lookup.proofs.retired.gather.Goals as goal

pub run-init : goal.run-init
run-init c = sym (append-nil c.args.retired.now.items)

pub run-preserved : goal.run-preserved
run-preserved c =
    let e = c.entry-item.result in
    c.in_ok-push.ensures.items
    ∙ (λ j. c.run.invariant j ++ c.subject_of.ensures j ∷ [])
    ∙ append_assoc c.args.retired.now.items _ (subject_of (entry_bytes e) ∷ [])
    ∙ ap (λ (zs : List (List ℕ)). c.args.retired.now.items ++ zs)
    (sym (subjects_pushed (map entry_bytes c.run_under.result.1.now) c.run.entry-index (entry_bytes e)
    (omega (arith, length-map c.run_under.result.1.now entry_bytes, c.run-test.true))
    (read_map entry_bytes c.run_under.result.1.now c.run.entry-index e c.run-test.true c.entry-item.is)))

pub returns : goal.returns
returns c =
    let es = map entry_bytes c.run_under.result.1.now in
    c.run.invariant
    ∙ ap (λ (zs : List (List ℕ)). c.args.retired.now.items ++ map subject_of zs)
    (take_all c.run.entry-index es (omega (arith, length-map c.run_under.result.1.now entry_bytes, c.run-test.false))
    ∙ numbered_entries (retires_under c.args.prefix.now) c.args.index.now c.run_under.result.0.now es c.run_under.ensures.run)
