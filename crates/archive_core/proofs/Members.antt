-- What is among a list, its values and its parts, lists with the same members, and a list put in order.
use Rattle.std.proofs.Common.{◌≡◌, ◌↔◌, ◌<◌, true, List, sym, ◌∙◌, ◌⊎◌, ◌+◌, zero, suc, Bool, false, [], ◌∷◌, ◌++◌}
use Rattle.std.proofs.Common.{length, get_or, map, filter, refl, ap, inl, inr, arith, subst, add-one}
use Rattle.std.specs.declared.cmp.Ordering.{Ordering}
use Rattle.std.specs.Ordering.{eq_by_cmp, is_eq, is_lt, on, ordering_reverse}
use Rattle.std.specs.Cmp.{IsTotalOrder, tied_itself}
use Rattle.std.specs.List.{Contains, AllByRecursion, IsDistinct, flat_map, AllZip}
use Rattle.std.specs.FinSet.{FinSet, from_list, contains, IsAntisymmetric, contains-from_list}
use Rattle.std.proofs.lemmas.Bool.{cond_both}
use Rattle.std.proofs.lemmas.Cmp.{eq_by_cmp_equiv}
use Rattle.std.proofs.lemmas.List.{length-map, get_or-map}
use Rattle.std.proofs.lemmas.Map.Views.{list_any-from_Contains, Contains-from_any}
use Rattle.join_core.specs.Listing.{listing}
use Rattle.join_core.proofs.Listing.{any_listing}
use Rattle.join_core.proofs.Members.{one_key}
use Rattle.join_core.proofs.Place.{along}
use Rattle.std.specs.declared.cmp.Ordering.TheVariants.{Less}
use Rattle.std.specs.List.Sorted.{IsSorted, IsStrictlySortedBy}
use Rattle.std.proofs.lemmas.List.Elements.{All-from_recursion, All-contains, All-contains_itself, All-filter}
use Rattle.std.proofs.lemmas.List.Elements.{filter_passes, Contains-get_or, Contains-append_left, Contains-append_right}
use Rattle.std.proofs.lemmas.List.Elements.{Contains-append_cases}

module _ {K : Type 0} {R : K → K → Ordering} (o : IsTotalOrder R) (same : IsAntisymmetric R) where
  -- a set's list has its members
  pub in_listing : (s : FinSet R) (k : K) → Contains (listing s) k ↔ (contains s k ≡ true)
  in_listing s k = (
    λ h. sym (any_listing o s k) ∙ list_any-from_Contains (eq_by_cmp_equiv o) k (listing s) h,
    λ h. Contains-from_any (one_key o same) k (listing s) (any_listing o s k ∙ h),
  )

  -- a set that is made of a list has what the list has
  pub in_made : (xs : List K) (k : K) → Contains xs k ↔ (contains (from_list {R = R} xs) k ≡ true)
  in_made xs k = (
    λ h. contains-from_list o xs k ∙ list_any-from_Contains (eq_by_cmp_equiv o) k xs h,
    λ h. Contains-from_any (one_key o same) k xs (sym (contains-from_list o xs k) ∙ h),
  )

  -- a list that is put in order has what it had
  pub in_order : (xs : List K) (k : K) → Contains (listing (from_list {R = R} xs)) k ↔ Contains xs k
  in_order xs k = (
    λ h. (in_made xs k).1 ((in_listing (from_list xs) k).0 h),
    λ h. (in_listing (from_list xs) k).1 ((in_made xs k).0 h),
  )

module _ {X : Type 0} where
  -- an element of a list with one more in front is that one, or one of the others
  pub in_cons : (x : X) (xs : List X) (a : X) → Contains (x ∷ xs) a → (x ≡ a) ⊎ Contains xs a
  in_cons x xs a (zero, lt, e) = inl e
  in_cons x xs a (suc k, lt, e) = inr (k, omega arith, e)

  pub in_front : (x : X) (xs : List X) → Contains (x ∷ xs) x
  in_front x xs = (0, omega arith, refl)

  pub in_rest : (x : X) (xs : List X) (a : X) → Contains xs a → Contains (x ∷ xs) a
  in_rest x xs a (k, lt, e) = (suc k, omega arith, e)

  -- what is kept by a test was there and passes it
  pub in_filter : (p : X → Bool) (xs : List X) (a : X) → Contains (filter p xs) a → Contains xs a × (p a ≡ true)
  in_filter p xs a h = (
    All-contains (Contains xs) (filter p xs) a (All-filter p (Contains xs) xs (All-contains_itself xs)) h,
    All-contains (λ x. p x ≡ true) (filter p xs) a (filter_passes p xs) h,
  )

  -- and what was there and passes it is kept
  pub to_filter : (p : X → Bool) (xs : List X) (a : X) → Contains xs a → p a ≡ true → Contains (filter p xs) a
  to_filter p [] a (k, lt, e) t = absurd (omega arith)
  to_filter p (x ∷ xs) a h t = elim (in_cons x xs a h) [
    | inl e ↦ rw (ap p e ∙ t) (subst (Contains (x ∷ filter p xs)) e (in_front x (filter p xs)))
    | inr there ↦
        let more = to_filter p xs a there t in
        cond_both (p x) (x ∷ filter p xs) (filter p xs) (λ ys. Contains ys a) (λ _. in_rest x (filter p xs) a more) (λ _. more)
  ]

  -- among elements that have a fact, an order that follows from another ascends where that does
  pub ascending_finer : (P : X → Type 0) (R S : X → X → Ordering)
      → ((x y : X) → P x → P y → R x y ≡ Less → S x y ≡ Less) → (xs : List X) → AllByRecursion P xs
      → IsStrictlySortedBy R xs → IsStrictlySortedBy S xs
  unfolding IsStrictlySortedBy
  ascending_finer P R S finer [] have up = tt
  ascending_finer P R S finer (x ∷ xs) have up = (each xs have.1 up.0, ascending_finer P R S finer xs have.1 up.1)
    where
      each : (ys : List X) → AllByRecursion P ys → AllByRecursion (λ y. R x y ≡ Less) ys → AllByRecursion (λ y. S x y ≡ Less) ys
      each [] h g = tt
      each (y ∷ ys) h g = (finer x y have.0 h.0 g.0, each ys h.1 g.1)

  -- elements that differ by one test differ by a finer one
  pub distinct_finer : (d e : X → X → Bool) → ((x y : X) → d x y ≡ false → e x y ≡ false) → (xs : List X) → IsDistinct d xs → IsDistinct e xs
  unfolding IsDistinct
  distinct_finer d e finer [] h = tt
  distinct_finer d e finer (x ∷ xs) h = (along _ (λ y. e x y ≡ false) (finer x) xs h.0, distinct_finer d e finer xs h.1)

  module _ {R : X → X → Ordering} (o : IsTotalOrder R) where
    -- a sorted list of different elements ascends strictly
    pub ascending_from_distinct : (xs : List X) → IsSorted R xs → IsDistinct (eq_by_cmp R) xs → IsStrictlySortedBy R xs
    unfolding IsStrictlySortedBy IsDistinct
    ascending_from_distinct [] up h = tt
    ascending_from_distinct (x ∷ []) up h = (tt, tt)
    ascending_from_distinct (x ∷ y ∷ ys) up h =
        let rest = ascending_from_distinct (y ∷ ys) (λ k d low high. simp add-one (simp add-one at (up (k + 1) d (omega arith) (omega arith)))) h.1 in
        let first : R x y ≡ Less = less (R x y) (R y x) (o.antisymm y x) (up 0 x (omega arith) (omega arith)) h.0.0 in
        ((first, along _ (λ z. R x z ≡ Less) (λ z. o.trans x y z first) ys rest.0), rest)
      where
        less : (r s : Ordering) → s ≡ ordering_reverse r → is_lt s ≡ false → is_eq r ≡ false → r ≡ Less
        less r s e low untied = grind arith

    above : (z a : X) (zs : List X) → AllByRecursion (λ w. R z w ≡ Less) zs → Contains zs a → R z a ≡ Less
    above z a zs all there = All-contains (λ w. R z w ≡ Less) zs a (All-from_recursion (λ w. R z w ≡ Less) zs all) there

    behind : (x y : X) (xs ys : List X) → x ≡ y → AllByRecursion (λ w. R x w ≡ Less) xs
        → ((a : X) → Contains (x ∷ xs) a → Contains (y ∷ ys) a) → (a : X) → Contains xs a → Contains ys a
    behind x y xs ys e low to a h = elim (in_cons y ys a (to a (in_rest x xs a h))) [
      | inl is ↦ absurd (cc (tied_itself o a, above x a xs low h))
      | inr there ↦ there
    ]

    -- two ascending lists with the same members are one
    pub one_with_members : (xs ys : List X) → IsStrictlySortedBy R xs → IsStrictlySortedBy R ys
        → ((a : X) → Contains xs a → Contains ys a) → ((a : X) → Contains ys a → Contains xs a) → xs ≡ ys
    unfolding IsStrictlySortedBy
    one_with_members [] [] up_xs up_ys to back = refl
    one_with_members [] (y ∷ ys) up_xs up_ys to back = let none = back y (in_front y ys) in absurd (omega arith)
    one_with_members (x ∷ xs) [] up_xs up_ys to back = let none = to x (in_front x xs) in absurd (omega arith)
    one_with_members (x ∷ xs) (y ∷ ys) up_xs up_ys to back = λ i. head i
        ∷ one_with_members xs ys up_xs.1 up_ys.1 (behind x y xs ys head up_xs.0 to)
        (behind y x ys xs (sym head) up_ys.0 back) i
      where
        head : x ≡ y
        head = elim (in_cons y ys x (to x (in_front x xs))) [
          | inl e ↦ sym e
          | inr there ↦ elim (in_cons x xs y (back y (in_front y ys))) [
            | inl e ↦ e
            | inr here ↦ cc (tied_itself o x, o.trans x y x (above x y xs up_xs.0 here) (above y x ys up_ys.0 there))
          ]
        ]

-- a test of values is one of what they are the values of
pub filter_map_swap : {X Y : Type 0} (p : Y → Bool) (f : X → Y) (xs : List X) → filter p (map f xs) ≡ map f (filter (λ x. p (f x)) xs)
filter_map_swap p f [] = refl
filter_map_swap p f (x ∷ xs) = grind (arith, filter_map_swap p f xs)

-- a relation of two lists, with one element more in each
pub pairs_more : {X Y : Type 0} (R : X → Y → Type 0) (xs : List X) (ys : List Y) (x : X) (y : Y) → AllZip R xs ys
    → R x y → AllZip R (xs ++ x ∷ []) (ys ++ y ∷ [])
pairs_more R [] [] x y all one = (one, tt)
pairs_more R [] (_ ∷ _) x y all one = absurd all
pairs_more R (_ ∷ _) [] x y all one = absurd all
pairs_more R (a ∷ xs) (b ∷ ys) x y all one = (all.0, pairs_more R xs ys x y all.1 one)

module _ {X Y : Type 0} where
  -- what is among the values of a function
  pub in_map : (f : X → Y) (xs : List X) (b : Y) → Contains (map f xs) b → (a : X) × Contains xs a × (b ≡ f a)
  in_map f [] b (k, lt, e) = absurd (omega arith)
  in_map f (x ∷ xs) b (k, lt, e) =
      let within : k < length (x ∷ xs) = omega (arith, length-map (x ∷ xs) f) in
      (get_or (x ∷ xs) k x, Contains-get_or (x ∷ xs) k x within, sym e ∙ get_or-map f (x ∷ xs) k x b within)

  pub to_map : (f : X → Y) (xs : List X) (a : X) → Contains xs a → Contains (map f xs) (f a)
  to_map f xs a (k, lt, e) = (k, omega (arith, length-map xs f), get_or-map f xs k a (f a) lt ∙ ap f e)

  -- what is among the lists that a function gives
  pub in_flat_map : (f : X → List Y) (xs : List X) (b : Y) → Contains (flat_map f xs) b → (a : X) × Contains xs a × Contains (f a) b
  in_flat_map f [] b (k, lt, e) = absurd (omega arith)
  in_flat_map f (x ∷ xs) b h = elim (Contains-append_cases (f x) (flat_map f xs) b h) [
    | inl here ↦ (x, in_front x xs, here)
    | inr there ↦ let one = in_flat_map f xs b there in (one.0, in_rest x xs one.0 one.1, one.2)
  ]

  pub to_flat_map : (f : X → List Y) (xs : List X) (a : X) (b : Y) → Contains xs a → Contains (f a) b → Contains (flat_map f xs) b
  to_flat_map f [] a b (k, lt, e) g = absurd (omega arith)
  to_flat_map f (x ∷ xs) a b h g = elim (in_cons x xs a h) [
    | inl e ↦ Contains-append_left (f x) (flat_map f xs) b (subst (λ y. Contains (f y) b) (sym e) g)
    | inr there ↦ Contains-append_right (f x) (flat_map f xs) b (to_flat_map f xs a b there g)
  ]

  along_map : (P : Y → Type 0) (f : X → Y) (xs : List X) → AllByRecursion P (map f xs) ↔ AllByRecursion (λ x. P (f x)) xs
  along_map P f [] = (λ h. h, λ h. h)
  along_map P f (x ∷ xs) = let more = along_map P f xs in (λ h. (h.0, more.0 h.1), λ h. (h.0, more.1 h.1))

  -- a list whose keys ascend ascends by its keys
  pub ascending_by : (R : Y → Y → Ordering) (f : X → Y) (xs : List X) → IsStrictlySortedBy R (map f xs) → IsStrictlySortedBy (on f R) xs
  unfolding IsStrictlySortedBy
  ascending_by R f [] h = tt
  ascending_by R f (x ∷ xs) h = ((along_map (λ y. R (f x) y ≡ Less) f xs).0 h.0, ascending_by R f xs h.1)

  -- the values ascend where the list does by them
  pub ascending_map : (R : Y → Y → Ordering) (f : X → Y) (xs : List X) → IsStrictlySortedBy (on f R) xs → IsStrictlySortedBy R (map f xs)
  unfolding IsStrictlySortedBy
  ascending_map R f [] h = tt
  ascending_map R f (x ∷ xs) h = ((along_map (λ y. R (f x) y ≡ Less) f xs).1 h.0, ascending_map R f xs h.1)
