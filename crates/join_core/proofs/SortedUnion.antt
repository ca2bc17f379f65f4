-- Two lists put together and sorted, with one of each key: the ascending list of the union.
use Rattle.std.proofs.Common.{◌≡◌, Bool, true, false, cond, ◌||◌, List, [], ◌∷◌, ◌++◌, map, refl, sym, ap, ◌∙◌}
use Rattle.std.proofs.Math.Bool.{or_self_left}
use Rattle.std.proofs.lemmas.Bool.{or_right}
use Rattle.std.specs.declared.cmp.Ordering.{Ordering}
use Rattle.std.specs.Ordering.{eq_by_cmp, is_eq}
use Rattle.std.specs.Cmp.{IsTotalOrder, tied_itself, alike_right, Equal-is}
use Rattle.std.specs.List.{AllByRecursion, list_any, dedup, dedup_from}
use Rattle.std.specs.List.Sorted.{IsStrictlySortedBy, IsSorted, IsPermutation}
use Rattle.std.specs.FinSet.{from_list, contains, union, IsAntisymmetric, contains-from_list, contains-insert, contains-union, same_set}
use Rattle.std.proofs.lemmas.List.Folds.{list_any-append}
use Rattle.std.proofs.lemmas.List.Sorted.{list_any-IsPermutation}
use Rattle.std.proofs.lemmas.List.Kept.{IsStrictlySortedBy-dedup}

-- of elements with one key one is kept, as of the keys
map_dedup_from : {X K : Type 0} (f : X → K) (same : K → K → Bool) (x : X) (xs : List X)
    → map f (dedup_from (λ a b. same (f a) (f b)) x xs) ≡ dedup_from same (f x) (map f xs)
map_dedup_from f same x [] = refl
map_dedup_from f same x (y ∷ ys) = elim (same (f y) (f x)) as
    (λ b. map f (cond b (dedup_from (λ a b. same (f a) (f b)) x ys) (x ∷ dedup_from (λ a b. same (f a) (f b)) y ys))
    ≡ cond b (dedup_from same (f x) (map f ys)) (f x ∷ dedup_from same (f y) (map f ys))) [
      | true ↦ map_dedup_from f same x ys
      | false ↦ ap (λ l. f x ∷ l) (map_dedup_from f same y ys)
    ]

pub map_dedup : {X K : Type 0} (f : X → K) (same : K → K → Bool) (xs : List X) → map f (dedup (λ a b. same (f a) (f b)) xs) ≡ dedup same (map f xs)
map_dedup f same [] = refl
map_dedup f same (x ∷ xs) = map_dedup_from f same x xs

module _ {K : Type 0} {R : K → K → Ordering} (o : IsTotalOrder R) where
  -- each key of a list is a member of its set
  pub along_members : (P : K → Type 0) (ks : List K) → ((k : K) → contains (from_list {R = R} ks) k ≡ true → P k) → AllByRecursion P ks
  along_members P [] each = tt
  along_members P (k ∷ ks) each = (
    each k (contains-insert o (from_list ks) k k ∙ ap (λ r. is_eq r || contains (from_list {R = R} ks) k) (tied_itself o k)),
    along_members P ks (λ q h. each q (contains-insert o (from_list ks) k q ∙ or_right (eq_by_cmp R q k) _ h)),
  )

  -- a key is among those of which one is kept just where it is among all
  any_dedup_from : (q k : K) (ks : List K) → list_any (eq_by_cmp R q) (dedup_from (eq_by_cmp R) k ks) ≡ (eq_by_cmp R q k || list_any (eq_by_cmp R q) ks)
  any_dedup_from q k [] = refl
  any_dedup_from q k (x ∷ xs) = elim (eq_by_cmp R x k) as
      (λ b. eq_by_cmp R x k ≡ b → list_any (eq_by_cmp R q)
      (cond b (dedup_from (eq_by_cmp R) k xs) (k ∷ dedup_from (eq_by_cmp R) x xs))
      ≡ (eq_by_cmp R q k || (eq_by_cmp R q x || list_any (eq_by_cmp R q) xs))) [
        | true ↦ λ e. cc (any_dedup_from q k xs, or_self_left (eq_by_cmp R q k) (list_any (eq_by_cmp R q) xs), alike_right o x k q ((Equal-is (R x k)).0 e))
        | false ↦ λ _. ap (λ b. eq_by_cmp R q k || b) (any_dedup_from q x xs)
      ] refl

  any_dedup : (q : K) (ks : List K) → list_any (eq_by_cmp R q) (dedup (eq_by_cmp R) ks) ≡ list_any (eq_by_cmp R q) ks
  any_dedup q [] = refl
  any_dedup q (k ∷ ks) = any_dedup_from q k ks

  module _ (same : IsAntisymmetric R) where
    -- the order of a list does not count
    pub from_list_permuted : (xs ys : List K) → IsPermutation xs ys → from_list {R = R} ys ≡ from_list xs
    from_list_permuted xs ys p = same_set o same _ _ (λ q. contains-from_list o ys q
        ∙ sym (list_any-IsPermutation (eq_by_cmp R q) xs ys p) ∙ sym (contains-from_list o xs q))

    -- two lists put together make the union
    pub from_list_append : (xs ys : List K) → from_list {R = R} (xs ++ ys) ≡ union (from_list xs) (from_list ys)
    from_list_append xs ys = same_set o same _ _ (λ q.
        contains-from_list o (xs ++ ys) q
        ∙ list_any-append (eq_by_cmp R q) xs ys
        ∙ sym (contains-union o (from_list xs) (from_list ys) q ∙ (λ i. contains-from_list o xs q i || contains-from_list o ys q i)))

    -- the ascending list of the union
    pub record IsMerged (xs ks merged : List K) : Type 0 where
      pub ascending : IsStrictlySortedBy R merged
      pub members : from_list {R = R} merged ≡ union (from_list xs) (from_list ks)

    -- repeats do not count
    from_list_dedup : (ks : List K) → from_list {R = R} (dedup (eq_by_cmp R) ks) ≡ from_list ks
    from_list_dedup ks = same_set o same _ _ (λ q. contains-from_list o (dedup (eq_by_cmp R) ks) q ∙ any_dedup q ks ∙ sym (contains-from_list o ks q))

    -- sorted together, two lists are the ascending list of the union once of each key one is kept
    pub deduped_is : (xs ks sorted : List K) → IsPermutation (xs ++ ks) sorted → IsSorted R sorted → IsMerged xs ks (dedup (eq_by_cmp R) sorted)
    deduped_is xs ks sorted permuted up = record {
      ascending = IsStrictlySortedBy-dedup o (λ x y. refl) sorted up;
      members = from_list_dedup sorted ∙ from_list_permuted (xs ++ ks) sorted permuted ∙ from_list_append xs ks;
    }
