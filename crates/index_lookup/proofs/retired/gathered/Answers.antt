use Rattle.std.proofs.Common.{List, ℕ, ◌++◌, sym, ap, ◌∙◌, arith}
use Rattle.std.proofs.lemmas.List.{take_all}
use Rattle.index_lookup.specs.Among.{all_of}
use Rattle.index_lookup.specs.InnerAnswering.{retired_of}
use Rattle.index_lookup.proofs.Retirements.{retired_more}
use Rattle.index_lookup.proofs.retired.gathered.Goals as goal

pub indexes-preserved : goal.indexes-preserved
indexes-preserved c =
    let prefix = c.args.prefix.now in
    let indexes = c.args.indexes.now in
    let i = c.indexes.index-index in
    c.in_ok-gather.ensures
    ∙ ap (λ (zs : List (List ℕ)). zs ++ retired_of prefix c.index-item.result) c.indexes.invariant
    ∙ sym (retired_more prefix indexes i c.index-item.result c.indexes-test.true c.index-item.is)

pub returns : goal.returns
returns c =
    c.indexes.invariant ∙ ap (λ (es : List (List (List ℕ))). retired_of c.args.prefix.now (all_of es))
    (take_all c.indexes.index-index c.args.indexes.now (omega (arith, c.indexes-test.false)))
