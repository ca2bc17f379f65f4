-- Sets that are made of lists: neither order nor repeats count.
use Rattle.std.proofs.Common.{◌≡◌, true, List, [], ◌∷◌, sym, ◌∙◌, ◌↔◌, arith}
use Rattle.std.specs.declared.cmp.Ordering.{Ordering}
use Rattle.std.specs.Ordering.{eq_by_cmp}
use Rattle.std.specs.Cmp.{IsTotalOrder, Equal-is, both_ways}
use Rattle.std.specs.List.{Contains, fold}
use Rattle.std.specs.FinSet.{FinSet, from_list, insert, union, IsAntisymmetric, contains-from_list, contains-insert, contains-union, same_set}
use Rattle.std.proofs.lemmas.Cmp.{eq_by_cmp_equiv}
use Rattle.std.proofs.lemmas.Map.Views.{list_any-from_Contains, Contains-from_any}
use Rattle.join_core.proofs.Unions.{union_empty}

module _ {K : Type 0} {R : K → K → Ordering} (o : IsTotalOrder R) (same : IsAntisymmetric R) where
  -- keys that the order ties are one
  pub one_key : (x y : K) → eq_by_cmp R x y ≡ true → x ≡ y
  one_key x y h = same x y ((Equal-is (R x y)).0 h)

  -- lists with the same members make one set
  pub from_list_same : (xs ys : List K) → ((k : K) → Contains xs k ↔ Contains ys k) → from_list {R = R} xs ≡ from_list ys
  from_list_same xs ys each = same_set o same _ _ (λ k.
      contains-from_list o xs k
      ∙ both_ways _ _ (λ h. list_any-from_Contains (eq_by_cmp_equiv o) k ys
      ((each k).0 (Contains-from_any one_key k xs h)))
      (λ h. list_any-from_Contains (eq_by_cmp_equiv o) k xs ((each k).1 (Contains-from_any one_key k ys h)))
      ∙ sym (contains-from_list o ys k))

  -- a key goes into either part of a union
  union_either : (s t : FinSet R) (k : K) → union (insert s k) t ≡ union s (insert t k)
  union_either s t k = same_set o same _ _ (λ q.
      let left = contains-union o (insert s k) t q in
      let right = contains-union o s (insert t k) q in
      grind (arith, left, right, contains-insert o s k q, contains-insert o t k q))

  -- putting in keys, one after another, gives the union with their set
  pub inserts_are_union : (s : FinSet R) (ks : List K) → fold insert s ks ≡ union s (from_list ks)
  inserts_are_union s [] = sym (union_empty o same s)
  inserts_are_union s (k ∷ ks) = inserts_are_union (insert s k) ks ∙ union_either s (from_list ks) k
