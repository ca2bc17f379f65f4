-- Places that ascend under their keys, key by key, and what is found of them by halving.
use Rattle.std.proofs.Common.{◌≡◌, ℕ, zero, suc, ◌+◌, ◌<◌, ◌⊎◌, true, List, [], ◌∷◌, ◌++◌, length, take, drop, map}
use Rattle.std.proofs.Common.{get_or, Some, Result, Ok, Err, refl, sym, ap, ◌∙◌, subst, arith, inl, inr, length-drop}
use Rattle.std.proofs.Common.{length-take, take-append-drop}
use Rattle.std.specs.Prelude.{slice_get}
use Rattle.std.specs.Cmp.{IsTotalOrder, tied_itself}
use Rattle.std.specs.Cmp.Lexicographic.{slice_cmp, nat_list_cmp_total}
use Rattle.std.specs.List.{All, AllByRecursion, Contains, HoldsAt, dedup, prefix_len}
use Rattle.std.specs.List.Sorted.{IsBinarySearchResult, IsPermutation, IsSearchInRange, IsSorted, IsSortedBy, IsSortedByKey, IsStrictlySortedBy}
use Rattle.std.specs.Ordering.{eq_by_cmp, is_eq, is_lt, nat_cmp, on, ordering_reverse, ordering_then}
use Rattle.std.specs.declared.cmp.Ordering.{Ordering}
use Rattle.std.specs.declared.cmp.Ordering.TheVariants.{Less, Equal, Greater}
use Rattle.std.proofs.lemmas.Bool.{cases_lt}
use Rattle.std.proofs.lemmas.Cmp.{eq_by_cmp_equiv, on_total, then_total}
use Rattle.std.proofs.lemmas.List.{get_or-drop, get_or-map, get_or-take, get_or_default, length-map}
use Rattle.std.proofs.lemmas.Map.Keys.{Less-from_sorted}
use Rattle.std.proofs.lemmas.Map.Views.{tells_apart}
use Rattle.std.proofs.lemmas.Option.{get_or_from_slice_get, slice_get-get_or, slice_get_within}
use Rattle.std.proofs.lemmas.List.Elements.{All-contains, All-push, All-weaker, Contains-append_cases, Contains-append_left}
use Rattle.std.proofs.lemmas.List.Elements.{Contains-append_right, Contains-get_or, Contains-push, Contains-push_cases}
use Rattle.std.proofs.lemmas.List.Elements.{recursion_from_All}
use Rattle.std.proofs.lemmas.List.Kept.{Any-dedup, Contains-from_dedup, IsStrictlySortedBy-dedup}
use Rattle.std.proofs.lemmas.List.Sorted.{Contains-permutation, IsPermutation-sym, searchable_from_sorted}
use Rattle.std.proofs.lemmas.List.Sums.{prefix_len_passes, prefix_len_stops}
use Rattle.archive_core.specs.Key.{IsKey, key_bytes}
use Rattle.archive_core.specs.declared.keys.SliceKey.{SliceKey}
use Rattle.archive_core.specs.declared.lookup.Where.{Where}
use Rattle.archive_core.specs.declared.lookup.Where.TheVariants.{File, Loaded}
use Rattle.archive_core.proofs.Made.{bytes_same}
use Rattle.archive_core.proofs.Records.{one_key}
use Rattle.archive_core.proofs.Members.{ascending_by, ascending_finer, ascending_map, in_map, to_map}
use Rattle.archive_from_records.specs.Keys.{AreInOrder as AreKeysInOrder}
use Rattle.command_queries.specs.Symbolicate.{asked_of}
use Rattle.text_input_files.specs.declared.frame.Frame.{Frame}
use Rattle.command_common.proofs.Readers.{all_more, all_take}
use Rattle.command_frames.specs.Asking.{HavePlaces, keys_of}
use Rattle.command_frames.specs.declared.places.AskedKey.{AskedKey}
use Rattle.command_frames.specs.declared.places.AskedPlace.{AskedPlace}
use Rattle.command_frames.specs.declared.key_answers.KeyAnswers.{KeyAnswers}
use Rattle.command_frames.specs.InnerPlaces.{AreAskedOf, AreGrouped, AreGroupedSoFar, AreInOrder, AreKeysOf, HasAsked}
use Rattle.command_frames.specs.InnerPlaces.{asked_cmp, has_key, key_cmp, numbers_of, place_cmp, place_of}
use Rattle.command_frames.specs.InnerKeyReplies.{StandsAt, asked_in}

-- ---- lists that ascend, each element once

module _ {X : Type 0} (R : X → X → Ordering) where
  last_ascend : (n : ℕ) (xs : List X) → IsStrictlySortedBy R xs → IsStrictlySortedBy R (drop n xs)
  unfolding IsStrictlySortedBy
  last_ascend (suc n) (x ∷ xs) up = last_ascend n xs up.1
  last_ascend n xs up = up

  first_ascend : (n : ℕ) (xs : List X) → IsStrictlySortedBy R xs → IsStrictlySortedBy R (take n xs)
  unfolding IsStrictlySortedBy
  first_ascend zero xs up = tt
  first_ascend (suc n) [] up = up
  first_ascend (suc n) (x ∷ xs) up = (all_take (λ y. R x y ≡ Less) n xs up.0, first_ascend n xs up.1)

  none_ascend : IsStrictlySortedBy R []
  unfolding IsStrictlySortedBy
  none_ascend = tt

  -- one more that is above each
  more_ascend : (xs : List X) (y : X) → IsStrictlySortedBy R xs → AllByRecursion (λ x. R x y ≡ Less) xs → IsStrictlySortedBy R (xs ++ y ∷ [])
  unfolding IsStrictlySortedBy
  more_ascend [] y up below = (tt, tt)
  more_ascend (x ∷ xs) y up below = (all_more (λ z. R x z ≡ Less) xs y up.0 below.0, more_ascend xs y up.1 below.1)

-- what stands there is found by halving
module _ {K : Type 0} {R : K → K → Ordering} (o : IsTotalOrder R) {X : Type 0} (key : X → K) where
  neighbours : (xs : List X) → IsStrictlySortedBy (λ a b. R (key a) (key b)) xs → IsSortedBy (λ a b. is_lt (R (key a) (key b))) xs
  neighbours xs up k d _ lt =
      ap is_lt (o.antisymm (key (get_or xs (k + 1) d)) (key (get_or xs k d)) ∙ ap ordering_reverse
      (Less-from_sorted (λ a b. R (key a) (key b)) xs k (k + 1) d up (omega arith) lt))

  found : (xs : List X) (q : K) (x : X) (r : Result ℕ ℕ) → IsStrictlySortedBy (λ a b. R (key a) (key b)) xs → Contains xs x → R (key x) q ≡ Equal
      → IsSearchInRange r (length xs) → IsBinarySearchResult (λ y. R (key y) q) xs r → (i : ℕ) × (r ≡ Ok i)
  found xs q x (Ok i) up there same within at = (i, refl)
  found xs q x (Err i) up there same within parted =
      let parts = parted (searchable_from_sorted o key xs q (neighbours xs up)) in
      absurd (elim (cases_lt there.0 i) [
        | inl below ↦ cc (same, there.2, parts.0 there.0 x (omega arith) below)
        | inr above ↦ cc (same, there.2, parts.1 there.0 x above there.1)
      ])

  -- what is neither below nor above it is the same
  pub once : (xs : List X) (a b : X) → IsStrictlySortedBy (λ x y. R (key x) (key y)) xs → Contains xs a → Contains xs b
      → (R (key a) (key b) ≡ Less → ⊥) → (R (key b) (key a) ≡ Less → ⊥) → a ≡ b
  once xs a b up (i, lt_i, at_i) (j, lt_j, at_j) not_below not_above =
      let there : get_or xs j a ≡ b = get_or_default xs j a b lt_j ∙ at_j in
      let here : get_or xs i b ≡ a = get_or_default xs i b a lt_i ∙ at_i in
      elim (cases_lt i j) [
        | inl below ↦ absurd (not_below (subst (λ (x : X). R (key x) (key b) ≡ Less) at_i
            (subst (λ (y : X). R (key (get_or xs i a)) (key y) ≡ Less) there (Less-from_sorted (λ x y. R (key x) (key y)) xs i j a up below lt_j))))
        | inr from ↦ elim (cases_lt j i) [
          | inl above ↦ absurd (not_above (subst (λ (x : X). R (key x) (key a) ≡ Less) at_j
              (subst (λ (y : X). R (key (get_or xs j b)) (key y) ≡ Less) here (Less-from_sorted (λ x y. R (key x) (key y)) xs j i b up above lt_i))))
          | inr upto ↦ let at : i ≡ j = omega (arith, from, upto) in sym at_i ∙ ap (λ (n : ℕ). get_or xs n a) at ∙ there
        ]
      ]

-- ---- orders

eq_true : (o : Ordering) → is_eq o ≡ true → o ≡ Equal
eq_true Equal e = refl
eq_true o e = absurd (cc e)

-- where two orders say less, the first says so, or none
first_less : (a b : Ordering) → ordering_then a b ≡ Less → (a ≡ Less) ⊎ ((a ≡ Equal) × (b ≡ Less))
first_less Less b e = inl refl
first_less Equal b e = inr (refl, e)
first_less Greater b e = absurd (cc e)

first_equal : (a b : Ordering) → ordering_then a b ≡ Equal → (a ≡ Equal) × (b ≡ Equal)
first_equal Equal b e = (refl, e)
first_equal a b e = absurd (cc e)

-- what is less is not the same
pub not_same : (a b : List ℕ) → slice_cmp nat_cmp a b ≡ Less → a ≡ b → ⊥
not_same a b less e = absurd (cc (less, ap (λ (c : List ℕ). slice_cmp nat_cmp c b) e, tied_itself nat_list_cmp_total b))

pub keys_total : IsTotalOrder key_cmp
keys_total = on_total (λ (k : SliceKey). key_bytes k) nat_list_cmp_total

pub places_total : IsTotalOrder place_cmp
places_total = on_total numbers_of nat_list_cmp_total

pub asked_total : IsTotalOrder asked_cmp
asked_total = then_total (on_total (λ (a : AskedPlace). a.key) keys_total) (on_total (λ (a : AskedPlace). a.place) places_total)

-- a place has numbers of its own
same_numbers : (a b : Where) → numbers_of a ≡ numbers_of b → a ≡ b
same_numbers (File a) (File b) e = cc
same_numbers (File a) (Loaded m b) e = absurd (cc e)
same_numbers (Loaded l a) (File b) e = absurd (cc e)
same_numbers (Loaded l a) (Loaded m b) e = cc

pub same_place : (a b : Where) → place_cmp a b ≡ Equal → a ≡ b
same_place a b e = same_numbers a b (bytes_same (numbers_of a) (numbers_of b) e)

-- ---- each once, in order

module _ {X : Type 0} {R : X → X → Ordering} (o : IsTotalOrder R) (xs sorted kept : List X) (moved : IsPermutation xs sorted)
    (once : kept ≡ dedup (eq_by_cmp R) sorted) where
  of_kept : (x : X) → Contains kept x → Contains xs x
  of_kept x there =
      Contains-permutation sorted xs x (IsPermutation-sym xs sorted moved)
      (Contains-from_dedup (eq_by_cmp R) sorted x (subst (λ (l : List X). Contains l x) once there))

  to_kept : (x : X) → Contains xs x → (y : X) × Contains kept y × (R x y ≡ Equal)
  to_kept x there =
      let any = Any-dedup (eq_by_cmp_equiv o) sorted x (Contains-permutation xs sorted x moved there) in
      (any.1, subst (λ (l : List X). Contains l any.1) (sym once) (any.0, any.2, any.3), eq_true _ any.4)

pub asked_are : (frames : List Frame) (asked sorted kept : List AskedPlace) → asked ≡ map place_of frames → IsPermutation asked sorted
    → kept ≡ dedup (eq_by_cmp asked_cmp) sorted → AreAskedOf frames kept
asked_are frames asked sorted kept are moved once = record {
  of_frames = λ one there. in_map place_of frames one
      (subst (λ (l : List AskedPlace). Contains l one) are (of_kept asked_total asked sorted kept moved once one there));
  whole = λ frame there.
      let one = to_kept asked_total asked sorted kept moved once (place_of frame)
      (subst (λ (l : List AskedPlace). Contains l (place_of frame)) (sym are) (to_map place_of frames frame there)) in
      let same = first_equal _ _ one.2 in
      let key = sym (bytes_same (key_bytes frame.key) (key_bytes one.0.key) same.0) in
      (one.0, one.1, key, sym (same_place (asked_of frame.load frame.address) one.0.place same.1));
}

pub once_sorted : (sorted kept : List AskedPlace) → IsSorted asked_cmp sorted → kept ≡ dedup (eq_by_cmp asked_cmp) sorted → IsStrictlySortedBy asked_cmp kept
once_sorted sorted kept up once = subst (IsStrictlySortedBy asked_cmp) (sym once) (IsStrictlySortedBy-dedup asked_total (λ x y. refl) sorted up)

-- ---- those of a key

with_key : (key : SliceKey) (one : AskedPlace) → key_bytes one.key ≡ key_bytes key → has_key key one ≡ true
with_key key one e = ap is_eq (ap (λ (b : List ℕ). slice_cmp nat_cmp b (key_bytes key)) e ∙ tied_itself nat_list_cmp_total (key_bytes key))

-- each of the first has the key
abbrev HasKey : SliceKey → AskedPlace → Type 0
HasKey key one = key_bytes one.key ≡ key_bytes key

run_of_key : (key : SliceKey) (xs : List AskedPlace) → All (HasKey key) (take (prefix_len (has_key key) xs) xs)
run_of_key key xs k d lt =
    let n = prefix_len (has_key key) xs in
    let few : k < n = omega (arith, length-take n xs, lt) in
    rw (get_or-take n xs k d few) (tells_apart bytes_same (key_bytes (get_or xs k d).key) (key_bytes key) (prefix_len_passes (has_key key) xs k d few))

-- under one key the places ascend
places_ascend : (key : SliceKey) (xs : List AskedPlace) → AllByRecursion (HasKey key) xs → IsStrictlySortedBy asked_cmp xs
    → IsStrictlySortedBy place_cmp (map (λ (one : AskedPlace). one.place) xs)
places_ascend key xs all up =
    ascending_map place_cmp (λ (one : AskedPlace). one.place) xs
    (ascending_finer (HasKey key) asked_cmp (on (λ (one : AskedPlace). one.place) place_cmp) (λ x y of also less. elim (first_less _ _ less) [
      | inl l ↦ absurd (not_same (key_bytes x.key) (key_bytes y.key) l (of ∙ sym also))
      | inr b ↦ b.1
    ]) xs all up)

-- ---- one key after another

-- the first of those that are left, and what comes of its key
module _ (first : AskedPlace) (left : List AskedPlace) (is_first : Some first ≡ slice_get left 0) where
  abbrev run_long : ℕ
  run_long = prefix_len (has_key first.key) left

  head : get_or left 0 first ≡ first
  head = get_or_from_slice_get left 0 first first (sym is_first)

  some : 0 < length left
  some = slice_get_within left 0 first (sym is_first)

  pub first_there : Contains left first
  first_there = (0, some, head)

  -- it has its key
  one_at_least : 0 < run_long
  one_at_least = elim (cases_lt 0 run_long) [
    | inl more ↦ more
    | inr none ↦
        let zero_long : run_long ≡ 0 = omega (arith, none) in
        let stops = prefix_len_stops (has_key first.key) left first (omega (arith, none, some)) in
        absurd (cc (with_key first.key first refl, ap (has_key first.key) (ap (λ (n : ℕ). get_or left n first) zero_long ∙ head), stops))
  ]

  -- those after the run have a higher key
  pub rest_above : IsStrictlySortedBy asked_cmp left → (one : AskedPlace) → Contains (drop run_long left) one → key_cmp first.key one.key ≡ Less
  rest_above up one (j, lt, at) =
      let next : AskedPlace = get_or left run_long first in
      let within : run_long + j < length left = omega (arith, lt, length-drop run_long left) in
      let stops = prefix_len_stops (has_key first.key) left first (omega (arith, within)) in
      let less : asked_cmp first next ≡ Less = subst (λ (a : AskedPlace). asked_cmp a next ≡ Less) head
      (Less-from_sorted asked_cmp left 0 run_long first up one_at_least (omega (arith, within))) in
      let above : key_cmp first.key next.key ≡ Less = elim (first_less _ _ less) [
        | inl l ↦ l
        | inr b ↦ absurd (cc (with_key first.key next (sym (bytes_same (key_bytes first.key) (key_bytes next.key) b.0)), stops))
      ] in
      let here : get_or left (run_long + j) one ≡ one = sym (get_or-drop run_long left j one) ∙ at in
      elim (cases_lt 0 j) [
        | inl behind ↦
            let after : asked_cmp next one ≡ Less =
            subst (λ (a : AskedPlace). asked_cmp a one ≡ Less) (get_or_default left run_long one first (omega (arith, within)))
            (subst (λ (a : AskedPlace). asked_cmp (get_or left run_long one) a ≡ Less) here
            (Less-from_sorted asked_cmp left run_long (run_long + j) one up (omega (arith, behind)) within)) in
            elim (first_less _ _ after) [
              | inl l ↦ nat_list_cmp_total.trans (key_bytes first.key) (key_bytes next.key) (key_bytes one.key) above l
              | inr b ↦ subst (λ (k : List ℕ). slice_cmp nat_cmp (key_bytes first.key) k ≡ Less) (bytes_same (key_bytes next.key) (key_bytes one.key) b.0) above
            ]
        | inr none ↦
            let at_once : run_long + j ≡ run_long = omega (arith, none) in
            subst (λ (a : AskedPlace). key_cmp first.key a.key ≡ Less)
            (get_or_default left run_long first one (omega (arith, within)) ∙ ap (λ (n : ℕ). get_or left n one) (sym at_once) ∙ here) above
      ]

  -- fewer are left
  pub fewer_left : (n : ℕ) (rest : List AskedPlace) → n ≡ run_long → rest ≡ drop n left → length rest < length left
  fewer_left n rest long is = omega (arith, one_at_least, some, ap length is, length-drop n left, long)

pub all_left : (asked : List AskedPlace) → IsStrictlySortedBy asked_cmp asked → AreGroupedSoFar asked asked []
all_left asked up = record {
  up = up;
  of_asked = λ one there. there;
  order = record { keys = none_ascend _; places = λ k d lt. absurd (omega (arith, lt)) };
  of_places = λ k d lt. absurd (omega (arith, lt));
  below = λ one next there left. absurd (omega (arith, there.1));
  each = λ one there. inl there;
}

pub none_left : (asked : List AskedPlace) (keys : List AskedKey) → AreGroupedSoFar asked [] keys → AreGrouped asked keys
none_left asked keys so = record {
  order = so.order;
  of_places = so.of_places;
  whole = λ one there. elim (so.each one there) [
    | inl left ↦ absurd (omega (arith, left.1))
    | inr h ↦ h
  ];
}

module _ (asked left : List AskedPlace) (keys : List AskedKey) (so : AreGroupedSoFar asked left keys) (first : AskedPlace)
    (is_first : Some first ≡ slice_get left 0)
    (n : ℕ) (long : n ≡ prefix_len (has_key first.key) left) (next : AskedKey) (key_is : next.key ≡ first.key)
    (places_are : next.places.items ≡ map (λ (one : AskedPlace). one.place) (take n left)) where
  abbrev rest : List AskedPlace
  rest = drop n left

  abbrev more : List AskedKey
  more = keys ++ next ∷ []

  both_parts : (one : AskedPlace) → Contains left one → Contains (take n left) one ⊎ Contains rest one
  both_parts one there = Contains-append_cases (take n left) rest one (subst (λ (l : List AskedPlace). Contains l one) (sym (take-append-drop n left)) there)

  in_rest_left : (one : AskedPlace) → Contains rest one → Contains left one
  in_rest_left one there = subst (λ (l : List AskedPlace). Contains l one) (take-append-drop n left) (Contains-append_right (take n left) rest one there)

  run_key : (one : AskedPlace) → Contains (take n left) one → key_bytes one.key ≡ key_bytes first.key
  run_key one there = All-contains (HasKey first.key) _ one (run_of_key first.key left) (subst (λ (m : ℕ). Contains (take m left) one) long there)

  next_below : (one : AskedPlace) → Contains rest one → key_cmp next.key one.key ≡ Less
  next_below one there =
      subst (λ (k : SliceKey). key_cmp k one.key ≡ Less) (sym key_is)
      (rest_above first left is_first so.up one (subst (λ (m : ℕ). Contains (drop m left) one) long there))

  asked_now : (one : AskedPlace) → Contains (take n left) one → HasAsked more (key_bytes one.key) one.place
  asked_now one there = record {
    one = next;
    is_one = Contains-push keys next;
    key_is = ap key_bytes key_is ∙ sym (run_key one there);
    place_in = subst (λ (l : List Where). Contains l one.place) (sym places_are) (to_map (λ (a : AskedPlace). a.place) (take n left) one there);
  }

  asked_still : (bytes : List ℕ) (place : Where) → HasAsked keys bytes place → HasAsked more bytes place
  asked_still bytes place h = record {
    one = h.one;
    is_one = Contains-append_left keys (next ∷ []) h.one h.is_one;
    key_is = h.key_is;
    place_in = h.place_in;
  }

  each_or_left : (one : AskedPlace) → Contains asked one → Contains rest one ⊎ HasAsked more (key_bytes one.key) one.place
  each_or_left one there = elim (so.each one there) [
    | inl before ↦ elim (both_parts one before) [
      | inl now ↦ inr (asked_now one now)
      | inr later ↦ inl later
    ]
    | inr h ↦ inr (asked_still (key_bytes one.key) one.place h)
  ]

  now_below : (one : AskedKey) → Contains keys one → key_cmp one.key next.key ≡ Less
  now_below one there = subst (λ (k : SliceKey). key_cmp one.key k ≡ Less) (sym key_is) (so.below one first there (first_there first left is_first))

  places_up : IsStrictlySortedBy place_cmp next.places.items
  places_up =
      subst (IsStrictlySortedBy place_cmp) (sym places_are)
      (places_ascend first.key (take n left) (recursion_from_All (HasKey first.key) (take n left)
      (subst (λ (m : ℕ). All (HasKey first.key) (take m left)) (sym long) (run_of_key first.key left))) (first_ascend asked_cmp n left so.up))

  abbrev IsOfPlaces : AskedKey → Type 0
  IsOfPlaces one = Contains (map (λ (place : AskedPlace). key_bytes place.key) asked) (key_bytes one.key)

  next_of_places : IsOfPlaces next
  next_of_places =
      subst (λ (k : SliceKey). Contains (map (λ (place : AskedPlace). key_bytes place.key) asked) (key_bytes k)) (sym key_is)
      (to_map (λ (place : AskedPlace). key_bytes place.key) asked first (so.of_asked first (first_there first left is_first)))

  pub grouped_more : AreGroupedSoFar asked rest more
  grouped_more = record {
    up = last_ascend asked_cmp n left so.up;
    of_asked = λ one there. so.of_asked one (in_rest_left one there);
    order = record {
      keys = more_ascend _ keys next so.order.keys
          (recursion_from_All (λ (one : AskedKey). key_cmp one.key next.key ≡ Less) keys
          (λ k d lt. now_below (get_or keys k d) (Contains-get_or keys k d lt)));
      places = All-push (λ (one : AskedKey). IsStrictlySortedBy place_cmp one.places.items) keys next so.order.places places_up;
    };
    of_places = All-push IsOfPlaces keys next so.of_places next_of_places;
    below = λ one later there left_there. elim (Contains-push_cases keys next one there) [
      | inl before ↦ so.below one later before (in_rest_left later left_there)
      | inr e ↦ subst (λ (k : AskedKey). key_cmp k.key later.key ≡ Less) e (next_below later left_there)
    ];
    each = each_or_left;
  }

-- ---- the keys of frames

of_frames : (frames : List Frame) (asked : List AskedPlace) → AreAskedOf frames asked → (key : List ℕ)
    → Contains (map (λ (one : AskedPlace). key_bytes one.key) asked) key → Contains (keys_of frames) key
of_frames frames asked of key there =
    let one = in_map (λ (a : AskedPlace). key_bytes a.key) asked key there in
    let frame = of.of_frames one.0 one.1 in
    let same : key ≡ key_bytes frame.0.key = one.2 ∙ ap (λ (a : AskedPlace). key_bytes a.key) frame.2 in
    subst (Contains (keys_of frames)) (sym same) (to_map (λ (f : Frame). key_bytes f.key) frames frame.0 frame.1)

-- those of the places that frames mean are those of the frames
pub keys_are : (frames : List Frame) (asked : List AskedPlace) (keys : List AskedKey) → AreAskedOf frames asked → AreGrouped asked keys → AreKeysOf frames keys
keys_are frames asked keys of are = record {
  order = are.order;
  of_frames = All-weaker (λ (one : AskedKey). Contains (map (λ (place : AskedPlace). key_bytes place.key) asked) (key_bytes one.key))
      (λ (one : AskedKey). Contains (keys_of frames) (key_bytes one.key)) (λ one. of_frames frames asked of (key_bytes one.key)) keys are.of_places;
  whole = λ frame there.
      let one = of.whole frame there in
      subst (λ (p : Where). HasAsked keys (key_bytes frame.key) p) one.3
      (subst (λ (b : List ℕ). HasAsked keys b one.0.place) one.2 (are.whole one.0 one.1));
}

pub among_frames : (frames : List Frame) (asked : List AskedKey) → AreKeysOf frames asked → (key : List ℕ)
    → Contains (map (λ (one : AskedKey). key_bytes one.key) asked) key → Contains (keys_of frames) key
among_frames frames asked of key there =
    let one = in_map (λ (a : AskedKey). key_bytes a.key) asked key there in
    subst (Contains (keys_of frames)) (sym one.2)
    (All-contains (λ (a : AskedKey). Contains (keys_of frames) (key_bytes a.key)) asked one.0 of.of_frames one.1)

-- they stand in the order of their bytes
pub sorted_keys : (asked : List AskedKey) → AreInOrder asked → IsSortedByKey (λ (one : AskedKey). key_bytes one.key) (slice_cmp nat_cmp) asked
sorted_keys asked order = λ j d below within. neighbours keys_total (λ (one : AskedKey). one.key) asked order.keys j d below within

abbrev key_in : AskedKey → SliceKey
key_in one = one.key

pub keys_in_order : (asked : List AskedKey) → AreInOrder asked → AreKeysInOrder (map (λ (one : AskedKey). one.key) asked)
keys_in_order [] order = λ j d _ below. absurd (omega (arith, below))
keys_in_order (first ∷ asked) order = λ j d _ below.
    let within : j + 1 < length (first ∷ asked) = omega (arith, below, length-map (first ∷ asked) key_in) in
    rw (get_or-map key_in (first ∷ asked) (j + 1) first d within, get_or-map key_in (first ∷ asked) j first d (omega (arith, within)))
    (sorted_keys (first ∷ asked) order j first (omega arith) within)

-- a key with these bytes is asked once
pub once_asked : (asked : List AskedKey) (a b : AskedKey) → IsStrictlySortedBy (λ x y. key_cmp x.key y.key) asked
    → Contains asked a → Contains asked b → key_bytes a.key ≡ key_bytes b.key → a ≡ b
once_asked asked a b up there also same = once keys_total key_in asked a b up there also (λ less. not_same (key_bytes a.key) (key_bytes b.key) less same)
    (λ less. not_same (key_bytes b.key) (key_bytes a.key) less (sym same))

-- under a key are the places that its frames mean
pub places_of : (frames : List Frame) (asked : List AskedKey) → AreKeysOf frames asked → (one : AskedKey) → Contains asked one
    → HavePlaces frames (key_bytes one.key) one.places.items
places_of frames asked of one there = record {
  whole = λ frame has same.
      let h = of.whole frame has in
      let is : h.one ≡ one = once_asked asked h.one one of.order.keys h.is_one there (h.key_is ∙ same) in
      subst (λ (a : AskedKey). Contains a.places.items (asked_of frame.load frame.address)) is h.place_in;
}

-- ---- what is told of a place, by two halvings

abbrev key_told : KeyAnswers → SliceKey
key_told one = one.asked.now.key

pub told_ascend : (told : List KeyAnswers) → AreInOrder (asked_in told) → IsStrictlySortedBy (λ a b. key_cmp a.asked.now.key b.asked.now.key) told
told_ascend told order = ascending_by (λ (a b : AskedKey). key_cmp a.key b.key) (λ (one : KeyAnswers). one.asked.now) told order.keys

module _ (told : List KeyAnswers) (key : SliceKey) (place : Where) (order : AreInOrder (asked_in told))
    (has : HasAsked (asked_in told) (key_bytes key) place) where
  -- its key is there
  pub key_found : (r : Result ℕ ℕ) → IsSearchInRange r (length told)
      → IsBinarySearchResult (λ (one : KeyAnswers). key_cmp one.asked.now.key key) told r → (i : ℕ) × (r ≡ Ok i)
  key_found r within by_key =
      let one = in_map (λ (k : KeyAnswers). k.asked.now) told has.one has.is_one in
      let same : key_cmp one.0.asked.now.key key ≡ Equal =
      ap (λ (b : List ℕ). slice_cmp nat_cmp b (key_bytes key)) (ap (λ (a : AskedKey). key_bytes a.key) (sym one.2) ∙ has.key_is)
      ∙ tied_itself nat_list_cmp_total (key_bytes key) in
      found keys_total key_told told key one.0 r (told_ascend told order) one.1 same within by_key

  -- and so is the place under it
  pub place_found : (i : ℕ) (one : KeyAnswers) (places : List Where) (r : Result ℕ ℕ) → i < length told
      → HoldsAt (λ (one : KeyAnswers). key_cmp one.asked.now.key key ≡ Equal) told i
      → places ≡ (get_or told i one).asked.now.places.items → IsSearchInRange r (length places)
      → IsBinarySearchResult (λ (p : Where). place_cmp p place) places r → (n : ℕ) × (r ≡ Ok n)
  place_found i one places r lt at are within by_place =
      let this : AskedKey = (get_or told i one).asked.now in
      let among = to_map (λ (k : KeyAnswers). k.asked.now) told (get_or told i one) (Contains-get_or told i one lt) in
      let bytes : key_bytes this.key ≡ key_bytes key = bytes_same (key_bytes this.key) (key_bytes key) (at one) in
      let is : has.one ≡ this = once_asked (asked_in told) has.one this order.keys has.is_one among (has.key_is ∙ sym bytes) in
      let there : Contains places place = subst (λ (l : List Where). Contains l place) (ap (λ (a : AskedKey). a.places.items) is ∙ sym are) has.place_in in
      let up : IsStrictlySortedBy place_cmp places = subst (IsStrictlySortedBy place_cmp) (sym are)
      (All-contains (λ (a : AskedKey). IsStrictlySortedBy place_cmp a.places.items) (asked_in told) this order.places among) in
      found places_total (λ (p : Where). p) places place place r up there (tied_itself nat_list_cmp_total (numbers_of place)) within by_place

-- what is told of it stands there
pub told_in : (told : List KeyAnswers) (key : SliceKey) (place : Where) (i n : ℕ) (one other : KeyAnswers) (places : List Where)
    → i < length told → HoldsAt (λ (one : KeyAnswers). key_cmp one.asked.now.key key ≡ Equal) told i
    → places ≡ (get_or told i one).asked.now.places.items → n < length places → HoldsAt (λ (p : Where). place_cmp p place ≡ Equal) places n
    → one ≡ get_or told i one → other ≡ get_or told i other → IsKey other.asked.now.key → IsKey key → StandsAt told key place other n
told_in told key place i n one other places lt at are within at_place one_is other_is is_other is_key = record {
  is_one = (i, lt, sym other_is);
  key_is = one_key other.asked.now.key key is_other is_key
      (ap (λ (k : KeyAnswers). key_bytes k.asked.now.key) other_is ∙ bytes_same (key_bytes (get_or told i other).asked.now.key) (key_bytes key) (at other));
  place_is =
      let same : one ≡ other = one_is ∙ get_or_default told i one other lt ∙ sym other_is in
      let places_are : other.asked.now.places.items ≡ places = ap (λ (k : KeyAnswers). k.asked.now.places.items) (sym same ∙ one_is) ∙ sym are in
      ap (λ (l : List Where). slice_get l n) places_are ∙ slice_get-get_or places n place within
      ∙ ap Some (same_place (get_or places n place) place (at_place place));
}
