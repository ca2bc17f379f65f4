-- Each finite set has one ascending list of its members.
use Rattle.std.proofs.Common.{◌≡◌, true, false, ◌||◌, List, [], ◌∷◌, length, refl, sym, ap, ◌∙◌, arith}
use Rattle.std.proofs.Math.Bool.{or_self_left}
use Rattle.std.specs.declared.cmp.Ordering.{Ordering}
use Rattle.std.specs.declared.cmp.Ordering.TheVariants.{Less, Equal, Greater}
use Rattle.std.specs.Ordering.{eq_by_cmp, is_eq, ordering_reverse, match_ordering}
use Rattle.std.specs.Cmp.{IsTotalOrder, tied_itself, alike_right, Equal-is}
use Rattle.std.specs.List.{AllByRecursion, list_any}
use Rattle.std.specs.List.Sorted.{IsStrictlySortedBy}
use Rattle.std.specs.FinSet as set
use Rattle.std.specs.FinSet.{FinSet, from_list, contains, items, IsAntisymmetric, contains-from_list, contains-items, same_set}
use Rattle.join_core.specs.Listing.{IsListing, put, ascending_of, listing}
use Rattle.join_core.proofs.Place.{along, none_tied, len_listed}

module _ {K : Type 0} {R : K → K → Ordering} (o : IsTotalOrder R) where
  along_put : (P : K → Type 0) (k : K) (xs : List K) → P k → AllByRecursion P xs → AllByRecursion P (put R k xs)
  along_put P k [] p h = (p, tt)
  along_put P k (x ∷ xs) p h = elim (R k x) as (λ r. AllByRecursion P (match_ordering r (k ∷ x ∷ xs) (x ∷ xs) (x ∷ put R k xs))) [
    | Less ↦ (p, h)
    | Equal ↦ h
    | Greater ↦ (h.0, along_put P k xs p h.1)
  ]

  -- an ascending list stays so
  ascending_put : (k : K) (xs : List K) → IsStrictlySortedBy R xs → IsStrictlySortedBy R (put R k xs)
  unfolding IsStrictlySortedBy
  ascending_put k [] h = (tt, tt)
  ascending_put k (x ∷ xs) h = elim (R k x) as (λ r. R k x ≡ r → IsStrictlySortedBy R (match_ordering r (k ∷ x ∷ xs) (x ∷ xs) (x ∷ put R k xs))) [
    | Less ↦ λ e. ((e, along (λ y. R x y ≡ Less) (λ y. R k y ≡ Less) (λ y l. o.trans k x y e l) xs h.0), h)
    | Equal ↦ λ _. h
    | Greater ↦ λ e. (along_put (λ y. R x y ≡ Less) k xs (o.antisymm x k ∙ ap ordering_reverse e) h.0, ascending_put k xs h.1)
  ] refl

  -- putting each key at its place makes an ascending list
  pub ascending_ascending_of : (ks : List K) → IsStrictlySortedBy R (ascending_of R ks)
  unfolding IsStrictlySortedBy
  ascending_ascending_of [] = tt
  ascending_ascending_of (k ∷ ks) = ascending_put k (ascending_of R ks) (ascending_ascending_of ks)

  -- with the same members, and the key
  any_put : (q k : K) (xs : List K) → list_any (eq_by_cmp R q) (put R k xs) ≡ (eq_by_cmp R q k || list_any (eq_by_cmp R q) xs)
  any_put q k [] = refl
  any_put q k (x ∷ xs) = elim (R k x) as (λ r. R k x ≡ r
      → list_any (eq_by_cmp R q) (match_ordering r (k ∷ x ∷ xs) (x ∷ xs) (x ∷ put R k xs))
      ≡ (eq_by_cmp R q k || (eq_by_cmp R q x || list_any (eq_by_cmp R q) xs))) [
        | Less ↦ λ _. refl
        | Equal ↦ λ e. cc (alike_right o k x q e, or_self_left (eq_by_cmp R q x) (list_any (eq_by_cmp R q) xs))
        | Greater ↦ λ _. grind (arith, any_put q k xs)
      ] refl

  any_ascending_of : (q : K) (ks : List K) → list_any (eq_by_cmp R q) (ascending_of R ks) ≡ list_any (eq_by_cmp R q) ks
  any_ascending_of q [] = refl
  any_ascending_of q (k ∷ ks) = any_put q k (ascending_of R ks) ∙ ap (λ b. eq_by_cmp R q k || b) (any_ascending_of q ks)

  -- a key is in the set just where it is in the list
  pub any_listing : (s : FinSet R) (q : K) → list_any (eq_by_cmp R q) (listing s) ≡ contains s q
  unfolding listing
  any_listing s q = any_ascending_of q (items s) ∙ sym (contains-items s q)

  module _ (same : IsAntisymmetric R) where
    -- each set has a listing
    pub listed : (s : FinSet R) → IsListing R s (listing s)
    unfolding listing
    listed s = record {
      ascending = ascending_ascending_of (items s);
      same = same_set o same s (from_list (ascending_of R (items s)))
          (λ q. contains-items s q ∙ sym (any_ascending_of q (items s))
          ∙ sym (contains-from_list o (ascending_of R (items s)) q));
    }

    first_none : (x : K) (y : K) (ys : List K) → R x y ≡ Less → AllByRecursion (λ z. R y z ≡ Less) ys → list_any (eq_by_cmp R x) (y ∷ ys) ≡ false
    first_none x y ys e h = none_tied R x (y ∷ ys) (e, along (λ z. R y z ≡ Less) (λ z. R x z ≡ Less) (λ z l. o.trans x y z e l) ys h)

    itself : (x : K) (xs : List K) → list_any (eq_by_cmp R x) (x ∷ xs) ≡ true
    itself x xs = ap (λ r. is_eq r || list_any (eq_by_cmp R x) xs) (tied_itself o x)

    -- two ascending lists with the same members are one
    pub one_ascending : (xs ys : List K) → IsStrictlySortedBy R xs → IsStrictlySortedBy R ys
        → ((q : K) → list_any (eq_by_cmp R q) xs ≡ list_any (eq_by_cmp R q) ys) → xs ≡ ys
    unfolding IsStrictlySortedBy
    one_ascending [] [] a b e = refl
    one_ascending [] (y ∷ ys) a b e = cc (e y, itself y ys)
    one_ascending (x ∷ xs) [] a b e = cc (e x, itself x xs)
    one_ascending (x ∷ xs) (y ∷ ys) a b e = elim (R x y) as (λ r. R x y ≡ r → x ∷ xs ≡ y ∷ ys) [
      | Less ↦ λ l. cc (itself x xs, e x, first_none x y ys l b.0)
      | Equal ↦ λ t.
          let head : x ≡ y = same x y t in
          let rest : (q : K) → list_any (eq_by_cmp R q) xs ≡ list_any (eq_by_cmp R q) ys = λ q.
          elim (eq_by_cmp R q x) as (λ c. eq_by_cmp R q x ≡ c → list_any (eq_by_cmp R q) xs ≡ list_any (eq_by_cmp R q) ys) [
            | true ↦ λ h.
                let is : q ≡ x = same q x ((Equal-is (R q x)).0 h) in
                ap (λ p. list_any (eq_by_cmp R p) xs) is ∙ none_tied R x xs a.0 ∙ sym (ap (λ p. list_any (eq_by_cmp R p) ys) (is ∙ head) ∙ none_tied R y ys b.0)
            | false ↦ λ h.
                sym (ap (λ c. c || list_any (eq_by_cmp R q) xs) h) ∙ e q ∙ ap (λ c. c || list_any (eq_by_cmp R q) ys) (ap (eq_by_cmp R q) (sym head) ∙ h)
          ] refl in
          λ i. head i ∷ one_ascending xs ys a.1 b.1 rest i
      | Greater ↦ λ g. cc (itself y ys, e y, first_none y x xs (o.antisymm y x ∙ ap ordering_reverse g) a.0)
    ] refl

    -- a set has no listing but this one
    pub one_listing : (s : FinSet R) (xs : List K) → IsListing R s xs → listing s ≡ xs
    one_listing s xs h = one_ascending (listing s) xs (listed s).ascending h.ascending
        (λ q. any_listing s q ∙ ap (λ t. contains t q) h.same ∙ contains-from_list o xs q)

    -- an ascending list is the listing of its set
    pub listing_ascending : (xs : List K) → IsStrictlySortedBy R xs → listing (from_list {R = R} xs) ≡ xs
    listing_ascending xs h = one_listing (from_list xs) xs (record { ascending = h; same = refl })

    -- as long as the set has members
    pub length_listing : (s : FinSet R) → length (listing s) ≡ set.len s
    length_listing s = sym (ap set.len (listed s).same ∙ len_listed o same (listing s) (listed s).ascending)
