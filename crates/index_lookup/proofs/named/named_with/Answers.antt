use Rattle.std.proofs.Common.{◌∙◌, List, ℕ, ap, map, subst}
use Rattle.std.specs.Prelude.{MatchOption}
use Rattle.index_lookup.specs.Among.{EntryAt}
use Rattle.index_lookup.specs.InnerAnswering.{entry_at}
use Rattle.index_lookup.specs.Named.{LivesAmong, Names}
use Rattle.index_lookup.proofs.NamedSlices.{with_digest}
use Rattle.index_lookup.proofs.named.named_with.Goals as goal

pub returns : goal.returns
returns c =
    let digest = c.args.digest.now.0 in
    let indexes = c.args.indexes.now in
    subst (λ (f : List ℕ). MatchOption c.first_with.result ((x : EntryAt) → LivesAmong f digest indexes x → ⊥)
    (λ named. (x : EntryAt) × LivesAmong f digest indexes x × Names x named)) c.key_prefix.ensures
    (with_digest c.key_prefix.result digest indexes (map entry_at c.deref.result.now)
    (ap (map entry_at) c.deref.ensures.value ∙ c.in_ok-live.ensures) c.first_with.result c.first_with.ensures)
