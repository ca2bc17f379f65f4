use Rattle.std.proofs.Common.{List, map, sym, subst, ◌∙◌}
use Rattle.std.specs.List.{AllPairs}
use Rattle.std.specs.List.Sorted.{IsPermutation}
use Rattle.std.proofs.lemmas.Bool.{MatchBool-at_false, MatchBool-at_true}
use Rattle.index_lookup.specs.Among.{AreAnsweringAmong, AreTied, EntryAt}
use Rattle.index_lookup.specs.InnerAnswering.{HaveOrder, HaveTie, entry_at}
use Rattle.index_lookup.specs.declared.numbered.Numbered.{Numbered}
use Rattle.index_lookup.proofs.Together.{answering, tied}
use Rattle.index_lookup.proofs.answering.answering_entries.Goals as goal

pub returns-then-are_tied : goal.returns-then-are_tied
returns-then-are_tied c =
    let prefix = c.key_prefix.result in
    let indexes = c.args.indexes.now in
    let sorted = map entry_at c.sort_by_rank.new.entries.items in
    let moved = subst (λ (xs : List EntryAt). IsPermutation xs sorted) c.in_ok-entries.ensures c.sort_by_rank.ensures.moved in
    let tie = subst (λ (ns : List Numbered). HaveTie (map entry_at ns)) c.deref.ensures.value (MatchBool-at_true _ _ c.if-are_tied.true c.are_tied.ensures) in
    subst (λ f. AreTied f indexes) c.key_prefix.ensures (tied prefix indexes sorted moved c.sort_by_rank.ensures.sorted tie)

pub returns : goal.returns
returns c =
    let prefix = c.key_prefix.result in
    let indexes = c.args.indexes.now in
    let sorted = map entry_at c.sort_by_rank.new.entries.items in
    let moved = subst (λ (xs : List EntryAt). IsPermutation xs sorted) c.in_ok-entries.ensures c.sort_by_rank.ensures.moved in
    let agree = subst (λ (ns : List Numbered). AllPairs HaveOrder (map entry_at ns)) c.deref.ensures.value
    (MatchBool-at_false _ _ c.if-are_tied.false c.are_tied.ensures) in
    subst (λ f. AreAnsweringAmong f indexes c.of_entries.result) c.key_prefix.ensures
    (subst (AreAnsweringAmong prefix indexes) (sym (c.of_entries.ensures ∙ c.keep_first_index.ensures))
    (answering prefix indexes sorted moved c.sort_by_rank.ensures.sorted agree))
