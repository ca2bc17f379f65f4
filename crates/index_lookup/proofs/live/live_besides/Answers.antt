use Rattle.std.proofs.Common.{List, ℕ, Bool, ◌++◌, sym, ap, ◌∙◌, arith}
use Rattle.std.specs.Prelude.{filter}
use Rattle.std.proofs.lemmas.List.{take_all}
use Rattle.index_lookup.specs.Among.{EntryAt}
use Rattle.index_lookup.specs.InnerAnswering.{all_at, entries_at, lives_by}
use Rattle.index_lookup.proofs.Entries.{picked_more}
use Rattle.index_lookup.proofs.live.live_besides.Goals as goal

pub indexes-preserved : goal.indexes-preserved
indexes-preserved c =
    let indexes = c.args.indexes.now in
    let i = c.indexes.input in
    let p : EntryAt → Bool = λ x. lives_by c.args.prefix.now c.args.retired.now x.entry in
    c.in_ok-gather.ensures
    ∙ ap (λ (zs : List EntryAt). zs ++ filter p (entries_at i 0 c.index-indexes-input.result)) c.indexes.invariant
    ∙ sym (picked_more p indexes i c.index-indexes-input.result c.indexes-test.true c.index-indexes-input.is)

pub returns : goal.returns
returns c =
    let p : EntryAt → Bool = λ x. lives_by c.args.prefix.now c.args.retired.now x.entry in
    c.indexes.invariant ∙ ap (λ (es : List (List (List ℕ))). filter p (all_at 0 es))
    (take_all c.indexes.input c.args.indexes.now (omega (arith, c.indexes-test.false)))
