-- The order on contents, and the join of two contents: the facts of `Join` for archives.
use Rattle.std.specs.Prelude.{◌≡◌, ℕ, List, Bool, true, false, not, ◌&&◌, ◌||◌}
use mathlib.Core.Path.{refl, sym, ap, ◌∙◌}
use Rattle.std.proofs.Common.{arith}
pub use Rattle.std.proofs.Math.Bool.{and-true as and_true, and-false as and_false}
pub use Rattle.std.proofs.lemmas.Bool.{or_left, or_right, not-true as not_true}
use Rattle.std.specs.Ordering.{nat_cmp}
use Rattle.std.specs.Cmp.{both_ways}
use Rattle.std.specs.Cmp.Lexicographic.{slice_cmp, nat_list_cmp_total}
use Rattle.std.specs.FinSet.{contains, union, contains-retain, contains-union, same_set, IsAntisymmetric}
use Rattle.std.specs.FinSet.{nat_cmp-IsAntisymmetric, slice_cmp-IsAntisymmetric}
use Rattle.join_core.specs.Bound.{IsLeastAbove}
use Rattle.archive_core.specs.Record.{IsRecord}
use Rattle.archive_core.specs.Content.{Operations, is_admission, covering, is_covered, content_of, IsMade, IsContent}
use Rattle.archive_core.specs.Content.{IsBelow, joined}

-- byte strings that compare equal in byte order are equal
pub bytes_same : IsAntisymmetric (slice_cmp nat_cmp)
bytes_same = slice_cmp-IsAntisymmetric nat_cmp-IsAntisymmetric

pub and_left : (a b : Bool) → (a && b) ≡ true → a ≡ true
and_left a b h = grind arith

pub and_right : (a b : Bool) → (a && b) ≡ true → b ≡ true
and_right a b h = grind arith

pub either : (P : Type 0) (a b : Bool) → (a ≡ true → P) → (b ≡ true → P) → (a || b) ≡ true → P
either P a b f g h = grind arith

pub by_test : (P : Type 0) (b : Bool) → (b ≡ true → P) → (b ≡ false → P) → P
by_test P b f g = grind arith

-- the content of a set has the members that the set does not cover
pub contains_made : (o : Operations) (r : List ℕ) → contains (content_of o) r ≡ (contains o r && not (is_covered o r))
contains_made o r = contains-retain o (λ x. not (is_covered o x)) r
    (λ x e. ap (λ y. not (is_covered o y)) (sym (bytes_same r x e)))

pub from_made : (o : Operations) (r : List ℕ) → contains (content_of o) r ≡ true → contains o r ≡ true
from_made o r h = and_left _ _ (sym (contains_made o r) ∙ h)

pub uncovered : (o : Operations) (r : List ℕ) → contains (content_of o) r ≡ true → is_covered o r ≡ false
uncovered o r h = not_true _ (and_right _ _ (sym (contains_made o r) ∙ h))

-- the content of a set covers none of its own admissions
pub uncovered_admission : (o : Operations) (r : List ℕ) → is_admission r ≡ true → contains (content_of o) r ≡ true
    → contains o (covering r) ≡ false
uncovered_admission o r a h = ap (λ b. b && contains o (covering r)) (sym a) ∙ uncovered o r h

-- it has each retirement of the set
pub kept : (o : Operations) (r : List ℕ) → is_admission r ≡ false → contains (content_of o) r ≡ contains o r
kept o r h = cc (contains_made o r, and_true (contains o r))

-- so it covers the same admissions as the set
pub covers_same : (o : Operations) (r : List ℕ) → contains (content_of o) (covering r) ≡ contains o (covering r)
covers_same o r = kept o (covering r) refl

-- and it has the admissions of the set that no retirement covers
pub free : (o : Operations) (r : List ℕ) → contains o (covering r) ≡ false → contains (content_of o) r ≡ contains o r
free o r k = cc (contains_made o r, and_false (is_admission r), and_true (contains o r))

-- the content of a set is its own content
pub made_again : (o : Operations) → IsMade (content_of o)
made_again o = same_set nat_list_cmp_total bytes_same (content_of (content_of o)) (content_of o) (λ r.
    both_ways _ _ (from_made (content_of o) r)
    (λ h. cc (contains_made (content_of o) r, covers_same o r, uncovered o r h)))

-- a content is below itself
pub below_reflexive : (o : Operations) → IsBelow o o
below_reflexive o = record { retirements = λ r _ h. h; live = λ r _ h _. or_left _ _ h }

-- the order is transitive
pub below_transitive : (o p q : Operations) → IsBelow o p → IsBelow p q → IsBelow o q
below_transitive o p q f g = record {
  retirements = λ r n h. g.retirements r n (f.retirements r n h);
  live = λ r a h k. grind (arith, f.live r a h k, g.live r a, g.retirements (covering r) refl);
}

below_one : (o p : Operations) → IsMade o → IsBelow o p → IsBelow p o
    → (r : List ℕ) → contains o r ≡ true → contains p r ≡ true
below_one o p is f g r h =
    let apart : is_covered o r ≡ false = uncovered o r (ap (λ s. contains s r) is ∙ h) in
    grind (arith, f.live r, f.retirements r, g.retirements (covering r) refl)

-- two sets that are their own contents and below each other are equal
pub made_antisymmetric : (o p : Operations) → IsMade o → IsMade p → IsBelow o p → IsBelow p o → o ≡ p
made_antisymmetric o p a b f g = same_set nat_list_cmp_total bytes_same o p
    (λ r. both_ways _ _ (below_one o p a f g r) (below_one p o b g f r))

-- so are two contents
pub below_antisymmetric : (o p : Operations) → IsContent o → IsContent p → IsBelow o p → IsBelow p o → o ≡ p
below_antisymmetric o p a b = made_antisymmetric o p a.itself b.itself

-- a set is below the content of a superset
pub below_made : (o u : Operations) → ((r : List ℕ) → contains o r ≡ true → contains u r ≡ true)
    → IsBelow o (content_of u)
below_made o u into = record {
  retirements = λ r n h. kept u r n ∙ into r h;
  live = λ r a h _. grind (arith, covers_same u r, free u r, into r h);
}

-- so are two sets below the content of their union
pub below_left : (o p : Operations) → IsBelow o (joined o p)
below_left o p = below_made o (union o p) (λ r h. contains-union nat_list_cmp_total o p r ∙ or_left _ _ h)

pub below_right : (o p : Operations) → IsBelow p (joined o p)
below_right o p = below_made p (union o p) (λ r h. contains-union nat_list_cmp_total o p r ∙ or_right _ _ h)

-- and a content above both is above the content of their union
pub joined_below : (o p w : Operations) → IsBelow o w → IsBelow p w → IsBelow (joined o p) w
joined_below o p w f g =
    let members : (r : List ℕ) → contains (union o p) r ≡ (contains o r || contains p r) =
    contains-union nat_list_cmp_total o p in
    record {
      retirements = λ r n h.
          grind (arith, f.retirements r n, g.retirements r n, members r, from_made (union o p) r h);
      live = λ r a h k.
          let lacks : (contains o (covering r) || contains p (covering r)) ≡ false =
          sym (covers_same (union o p) r ∙ members (covering r)) ∙ k in
          grind (arith, f.live r a, g.live r a, members r, from_made (union o p) r h);
    }

-- the content of the union of two contents is a content
pub joined_content : (o p : Operations) → IsContent o → IsContent p → IsContent (joined o p)
joined_content o p a b = record {
  itself = made_again (union o p);
  records = λ r h. either (IsRecord r) (contains o r) (contains p r) (a.records r) (b.records r)
      (sym (contains-union nat_list_cmp_total o p r) ∙ from_made (union o p) r h);
}

-- it is the least content above both
pub joined_least : (o p : Operations) → IsContent o → IsContent p → IsLeastAbove IsContent IsBelow o p (joined o p)
joined_least o p a b = record {
  content = joined_content o p a b;
  left = below_left o p;
  right = below_right o p;
  least = λ q _ f g. joined_below o p q f g;
}

-- two contents have a join
pub join_of : (o p : Operations) → IsContent o → IsContent p → (q : Operations) × IsLeastAbove IsContent IsBelow o p q
join_of o p a b = (joined o p, joined_least o p a b)
