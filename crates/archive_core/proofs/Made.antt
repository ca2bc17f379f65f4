-- The content that a set of operations makes, and the order on contents. The lemmas of the order itself stand in specs/Order.
use Rattle.std.proofs.Common.{◌≡◌, ℕ, List, Bool, true, false, ◌||◌, refl, sym, ap, ◌∙◌, arith}
use Rattle.std.proofs.Math.Bool.{or_comm}
use Rattle.std.specs.Ordering.{nat_cmp, eq_by_cmp}
use Rattle.std.specs.Cmp.{both_ways}
use Rattle.std.specs.Cmp.Lexicographic.{slice_cmp, nat_list_cmp_total}
use Rattle.std.specs.FinSet as set
use Rattle.std.specs.FinSet.{contains, union, contains-union, contains-insert, contains-empty, same_set}
pub use Rattle.archive_core.specs.Order.{bytes_same, and_left, and_right, and_true, and_false, not_true, either}
pub use Rattle.archive_core.specs.Order.{or_left, or_right, by_test, contains_made, from_made, uncovered}
pub use Rattle.archive_core.specs.Order.{uncovered_admission, kept, covers_same, free, made_again, made_antisymmetric}
pub use Rattle.archive_core.specs.Order.{below_reflexive, below_transitive, below_antisymmetric, below_made, below_left}
pub use Rattle.archive_core.specs.Order.{below_right, joined_below, joined_content}
use Rattle.archive_core.specs.Content.{Operations, is_admission, covering, is_covered, content_of, IsMade, IsBelow, joined}

-- Two sets that have the same retirements, and of the admissions the same that no retirement covers.
pub record IsAlike (s t : Operations) : Type 0 where
  pub retirements : (r : List ℕ) → is_admission r ≡ false → contains s r ≡ contains t r
  pub live : (r : List ℕ) → is_admission r ≡ true → contains s (covering r) ≡ false → contains s r ≡ contains t r

-- They make one content.
pub made_alike : (s t : Operations) → IsAlike s t → content_of s ≡ content_of t
made_alike s t alike = same_set nat_list_cmp_total bytes_same (content_of s) (content_of t) (λ r.
    grind (arith, contains_made s r, contains_made t r, alike.retirements r, alike.retirements (covering r) refl, alike.live r))

-- what is made is alike
pub made_is_alike : (o : Operations) → IsAlike (content_of o) o
made_is_alike o = record {
  retirements = kept o;
  live = λ r _ c. free o r (sym (covers_same o r) ∙ c);
}

-- with more members too
alike_more : (s t u v : Operations) (more : List ℕ → Bool) → ((r : List ℕ) → contains u r ≡ (more r || contains s r))
    → ((r : List ℕ) → contains v r ≡ (more r || contains t r)) → IsAlike s t → IsAlike u v
alike_more s t u v more in_u in_v alike = record {
  retirements = λ r n. cc (in_u r, in_v r, alike.retirements r n);
  live = λ r a c. grind (arith, in_u r, in_v r, in_u (covering r), alike.live r a);
}

-- with one more operation
pub alike_insert : (s t : Operations) (q : List ℕ) → IsAlike s t → IsAlike (set.insert s q) (set.insert t q)
alike_insert s t q = alike_more s t _ _ (λ r. eq_by_cmp (slice_cmp nat_cmp) r q)
    (contains-insert nat_list_cmp_total s q) (contains-insert nat_list_cmp_total t q)

-- and with the operations of a third set
pub alike_union : (s t u : Operations) → IsAlike s t → IsAlike (union s u) (union t u)
alike_union s t u = alike_more s t _ _ (contains u) (λ r. contains-union nat_list_cmp_total s u r
    ∙ or_comm (contains s r) (contains u r)) (λ r. contains-union nat_list_cmp_total t u r
    ∙ or_comm (contains t r) (contains u r))

pub alike_union_right : (u s t : Operations) → IsAlike s t → IsAlike (union u s) (union u t)
alike_union_right u s t = alike_more s t _ _ (contains u) (contains-union nat_list_cmp_total u s) (contains-union nat_list_cmp_total u t)

-- a set none of whose members is covered makes itself
pub made_of_uncovered : (o : Operations) → ((r : List ℕ) → contains o r ≡ true → is_covered o r ≡ false) → IsMade o
made_of_uncovered o each = same_set nat_list_cmp_total bytes_same (content_of o) o (λ r.
    both_ways _ _ (from_made o r) (λ h. cc (contains_made o r, each r h)))

-- and none of the members of one that does is covered
pub uncovered_of_made : (o : Operations) → IsMade o → (r : List ℕ) → contains o r ≡ true → is_covered o r ≡ false
uncovered_of_made o is r h = uncovered o r (ap (λ s. contains s r) is ∙ h)

-- a part of one that does, does too
pub made_part : (o p : Operations) → IsMade p → ((r : List ℕ) → contains o r ≡ true → contains p r ≡ true) → IsMade o
made_part o p is part = made_of_uncovered o (λ r h. grind (arith, part (covering r), uncovered_of_made p is r (part r h)))

-- no operations make no content but themselves
pub made_empty : IsMade set.empty
made_empty = made_of_uncovered set.empty (λ r h. cc (contains-empty (slice_cmp nat_cmp) r))

-- contents are united in any order
pub union_assoc : (a b c : Operations) → union (union a b) c ≡ union a (union b c)
union_assoc a b c = same_set nat_list_cmp_total bytes_same (union (union a b) c) (union a (union b c)) (λ r.
    let united : (o p : Operations) → contains (union o p) r ≡ (contains o r || contains p r) = λ o p. contains-union nat_list_cmp_total o p r in
    grind (arith, united (union a b) c, united a b, united a (union b c), united b c))

-- what two sets make, joined, is what both together make
pub joined_made : (o p : Operations) → joined (content_of o) (content_of p) ≡ content_of (union o p)
joined_made o p =
    made_alike (union (content_of o) (content_of p)) (union o (content_of p)) (alike_union (content_of o) o (content_of p) (made_is_alike o))
    ∙ made_alike (union o (content_of p)) (union o p) (alike_union_right o (content_of p) p (made_is_alike p))

pub joined_made_right : (o p : Operations) → joined o (content_of p) ≡ content_of (union o p)
joined_made_right o p = made_alike (union o (content_of p)) (union o p) (alike_union_right o (content_of p) p (made_is_alike p))

pub below_subset : (o p : Operations) → ((r : List ℕ) → contains o r ≡ true → contains p r ≡ true) → IsBelow o p
below_subset o p into = record { retirements = λ r _ h. into r h; live = λ r _ h _. or_left _ _ (into r h) }

-- a set each of whose members is in another or covered there is below what that one makes
pub below_made_known : (o u : Operations) → ((r : List ℕ) → contains o r ≡ true → (contains u r || is_covered u r) ≡ true) → IsBelow o (content_of u)
below_made_known o u known = record {
  retirements = λ r n h. grind (arith, kept u r n, known r h);
  live = λ r _ h _. grind (arith, covers_same u r, free u r, known r h);
}
