-- The entries that answer, put together.
use Rattle.std.proofs.Common.{◌≡◌, ℕ, Bool, true, false, not, ◌&&◌, ◌||◌, List, sym, ap, ◌∙◌, ◌⊎◌, arith}
use Rattle.std.specs.Prelude.{All, Contains, filter}
use Rattle.std.specs.List.{AllPairs, dedup, list_any}
use Rattle.std.specs.List.Sorted.{IsPermutation, IsSortedByKey}
use Rattle.std.specs.Ordering.{nat_cmp}
use Rattle.std.specs.Cmp.Lexicographic.{slice_cmp}
use Rattle.std.proofs.lemmas.List.Elements.{All-contains, All-filter, filter_agree, filter_passes}
use Rattle.std.proofs.lemmas.List.Filters.{All-dedup}
use Rattle.std.proofs.lemmas.List.Kept.{AllPairs-filter}
use Rattle.std.proofs.lemmas.List.Sorted.{All-permutation, Contains-permutation}
use Rattle.index_lookup.specs.Among.{AreAnsweringAmong, AreTied, EntryAt, IsAmong, IsRepeatOf, all_of, answers_among, has_live_companion, lives_under}
use Rattle.index_lookup.specs.Told.{is_companion}
use Rattle.index_lookup.specs.InnerAnswering.{HaveOrder, HaveTie, all_at, has_same_length_elsewhere, rank_in}
use Rattle.index_lookup.proofs.Entries.{AreApart, apart_both, are_among, are_apart, has_among, map-all_at}
use Rattle.index_lookup.proofs.Lists.{any_filter, any_map, filter_twice, pairs_permutation}
use Rattle.index_lookup.proofs.Places.{ArePlaced, in_order_of_places, once_covered, once_ordered}
use Rattle.index_lookup.proofs.Tied.{untied}
use Rattle.archive_core.proofs.Members.{to_filter}

module _ (prefix : List ℕ) (indexes : List (List (List ℕ))) where
  abbrev all : List (List ℕ)
  all = all_of indexes

  abbrev lives : EntryAt → Bool
  lives x = lives_under prefix all x.entry

  abbrev answers : EntryAt → Bool
  answers x = answers_among prefix all x.entry

  -- the entries that answer, in their order
  abbrev pub found : List EntryAt
  found = filter answers (all_at 0 indexes)

  -- ---- companions

  pub companion_is : list_any (λ x. is_companion x.entry) (filter lives (all_at 0 indexes)) ≡ has_live_companion prefix all
  companion_is =
      any_filter lives (λ x. is_companion x.entry) (all_at 0 indexes)
      ∙ sym (any_map (λ e. lives_under prefix all e && is_companion e) (λ (x : EntryAt). x.entry) (all_at 0 indexes))
      ∙ ap (list_any (λ e. lives_under prefix all e && is_companion e)) (map-all_at 0 indexes)

  pub found_companions : has_live_companion prefix all ≡ true → filter (λ x. is_companion x.entry) (filter lives (all_at 0 indexes)) ≡ found
  found_companions has =
      filter_twice lives (λ x. is_companion x.entry) (all_at 0 indexes)
      ∙ filter_agree (λ x. lives x && is_companion x.entry) answers (λ x. sym (ap (λ b. lives x && (not b || is_companion x.entry)) has)) (all_at 0 indexes)

  pub found_all : has_live_companion prefix all ≡ false → filter lives (all_at 0 indexes) ≡ found
  found_all none =
      filter_agree lives answers (λ x. both_true (lives x) ∙ sym (ap (λ b. lives x && (not b || is_companion x.entry)) none)) (all_at 0 indexes)
    where
      both_true : (b : Bool) → b ≡ (b && true)
      both_true b = grind arith

  -- ---- in the order of their records

  module _ (sorted : List EntryAt) (moved : IsPermutation found sorted) (by_place : IsSortedByKey rank_in (slice_cmp nat_cmp) sorted) where
    stand : All (IsAmong indexes) sorted
    stand = All-permutation (IsAmong indexes) found sorted moved (All-filter answers (IsAmong indexes) (all_at 0 indexes) (are_among indexes))

    each : All (λ x. answers x ≡ true) sorted
    each = All-permutation (λ x. answers x ≡ true) found sorted moved (filter_passes answers (all_at 0 indexes))

    has : (x : EntryAt) → IsAmong indexes x → answers x ≡ true → Contains sorted x
    has x among is = Contains-permutation found sorted x moved (to_filter answers (all_at 0 indexes) x (has_among indexes x among) is)

    pub tied : HaveTie sorted → AreTied prefix indexes
    tied tie = record {
      one = tie.one;
      other = tie.other;
      one_among = All-contains (IsAmong indexes) sorted tie.one stand tie.one_in;
      other_among = All-contains (IsAmong indexes) sorted tie.other stand tie.other_in;
      one_answers = All-contains (λ x. answers x ≡ true) sorted tie.one each tie.one_in;
      other_answers = All-contains (λ x. answers x ≡ true) sorted tie.other each tie.other_in;
      unordered = tie.unordered;
    }

    pub answering : AllPairs HaveOrder sorted → AreAnsweringAmong prefix indexes (dedup has_same_length_elsewhere sorted)
    answering agree =
        let placed : ArePlaced sorted = record {
          rise = λ i j d lt le. in_order_of_places sorted by_place i j d (omega (arith, lt)) le;
          apart = pairs_permutation AreApart apart_both found sorted moved (AllPairs-filter AreApart answers (all_at 0 indexes) (are_apart indexes));
          agree = agree;
        } in
        record {
          among = All-dedup has_same_length_elsewhere (IsAmong indexes) sorted stand;
          each = All-dedup has_same_length_elsewhere (λ x. answers x ≡ true) sorted each;
          whole = λ x among is. All-contains (λ z. Contains (dedup has_same_length_elsewhere sorted) z
              ⊎ ((y : EntryAt) × Contains (dedup has_same_length_elsewhere sorted) y × IsRepeatOf y z)) sorted x
              (once_covered sorted placed) (has x among is);
          ordered = once_ordered sorted placed;
          untied = λ tie. untied sorted agree (record {
            one = tie.one;
            other = tie.other;
            one_in =
                has tie.one tie.one_among tie.one_answers;
            other_in = has tie.other tie.other_among tie.other_answers;
            unordered = tie.unordered;
          });
        }
