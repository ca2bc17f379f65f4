use Rattle.std.proofs.Common.{◌≡◌, Bor, List, ap, arith, length, map, rules, sym, subst}
use Rattle.std.proofs.Math.ListN.{length-map}
use Rattle.std.specs.Prelude.{All}
use Rattle.std.specs.List.Sorted.{IsNonDecreasingBy, IsPermutation}
use Rattle.std.proofs.lemmas.List.Sorted.{All-permutation, IsNonDecreasingBy-from_sort_by_key, IsPermutation-map, length_permutation}
use Rattle.index_format.specs.Entry.{HasItsFields, entry_bytes}
use Rattle.index_format.specs.Text.{FollowOn}
use Rattle.index_format.specs.declared.entry.IndexEntry.{IndexEntry}
use Rattle.index_format.proofs.PlaceLemmas.{all_borrowed, follow_sorted, borrowed_rise, of_borrowed, offsets_rise}
use Rattle.index_format.proofs.places.are_laid.Goals as goal

pub follow_on-requires-clause-fields : goal.follow_on-requires-clause-fields
follow_on-requires-clause-fields c =
    let entries : List IndexEntry = c.args.entries.now in
    let sorted : List (Bor IndexEntry) = c.sort_unstable_by_key.new.self.items in
    let moved : IsPermutation entries (all_borrowed sorted) =
    subst (λ (xs : List IndexEntry). IsPermutation xs (all_borrowed sorted)) c.in_ok-order.ensures
    (IsPermutation-map of_borrowed _ sorted c.sort_unstable_by_key.ensures.permutation) in
    subst (λ (xs : List (Bor IndexEntry)). All HasItsFields (all_borrowed xs)) (sym c.deref.ensures.value)
    (All-permutation HasItsFields entries (all_borrowed sorted) moved c.requires.fields)

pub follow_on-requires-clause-few : goal.follow_on-requires-clause-few
follow_on-requires-clause-few c =
    let entries : List IndexEntry = c.args.entries.now in
    let sorted : List (Bor IndexEntry) = c.sort_unstable_by_key.new.self.items in
    let moved : IsPermutation entries (all_borrowed sorted) =
    subst (λ (xs : List IndexEntry). IsPermutation xs (all_borrowed sorted)) c.in_ok-order.ensures
    (IsPermutation-map of_borrowed _ sorted c.sort_unstable_by_key.ensures.permutation) in
    omega (arith, c.fit_memory.ensures, ap length c.deref.ensures.value, length_permutation entries (all_borrowed sorted) moved, length-map sorted of_borrowed)

pub returns : goal.returns
returns c =
    let entries : List IndexEntry = c.args.entries.now in
    let sorted : List (Bor IndexEntry) = c.sort_unstable_by_key.new.self.items in
    let moved : IsPermutation entries (all_borrowed sorted) =
    subst (λ (xs : List IndexEntry). IsPermutation xs (all_borrowed sorted)) c.in_ok-order.ensures
    (IsPermutation-map of_borrowed _ sorted c.sort_unstable_by_key.ensures.permutation) in
    let fields : All HasItsFields (all_borrowed sorted) = All-permutation HasItsFields entries (all_borrowed sorted) moved c.requires.fields in
    let up : IsNonDecreasingBy (λ e. e.now.offset) sorted =
    IsNonDecreasingBy-from_sort_by_key (λ e. e.now.offset) sorted c.sort_unstable_by_key.ensures.sorted
    (λ a r q k. search rules) in
    let by_bytes = IsPermutation-map entry_bytes entries (all_borrowed sorted) moved in
    let same : map entry_bytes (all_borrowed c.deref.result.now) ≡ map entry_bytes (all_borrowed sorted) =
    ap (λ (xs : List (Bor IndexEntry)). map entry_bytes (all_borrowed xs)) c.deref.ensures.value in (
      λ h. record {
        order = map entry_bytes (all_borrowed sorted);
        permuted = by_bytes;
        follow =
            subst (FollowOn 8 8 c.args.end) same (c.follow_on.ensures.0 h);
      },
      λ laid. c.follow_on.ensures.1 (subst (FollowOn 8 8 c.args.end) (sym same)
          (follow_sorted c.args.end (map entry_bytes entries) (map entry_bytes (all_borrowed sorted)) c.requires.checked
          by_bytes (offsets_rise (all_borrowed sorted) fields (borrowed_rise sorted up)) laid)),
    )
