use Rattle.std.proofs.Common.{◌≡◌, List, map, subst, ap, ◌∙◌}
use Rattle.std.specs.Prelude.{IfOk}
use Rattle.std.proofs.lemmas.List.Elements.{filter_agree}
use Rattle.index_lookup.specs.Among.{EntryAt, all_of, lives_under}
use Rattle.index_lookup.specs.InnerAnswering.{all_at, entry_at, is_retired, lives_by}
use Rattle.index_lookup.proofs.Retirements.{lives_is}
use Rattle.index_lookup.proofs.live.live_under.Goals as goal

pub returns : goal.returns
returns c =
    let prefix = c.args.prefix.now in
    let indexes = c.args.indexes.now in
    let retired = c.deref.result.now in
    let same = ap is_retired c.deref.ensures.value ∙ c.in_ok-retired.ensures.same in
    subst (λ (xs : List EntryAt). IfOk c.live_besides.result (λ live. map entry_at live.items ≡ xs))
    (filter_agree (λ (x : EntryAt). lives_by prefix retired x.entry) (λ x. lives_under prefix (all_of indexes) x.entry)
    (λ x. lives_is prefix (all_of indexes) retired c.requires same x.entry) (all_at 0 indexes))
    c.live_besides.ensures
