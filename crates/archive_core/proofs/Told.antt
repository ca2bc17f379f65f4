-- Operations that are told: all of a content that have a fact, in an order.
use Rattle.std.proofs.Common.{◌≡◌, ◌↔◌, ℕ, Bool, true, false, List, [], ◌∷◌, map, filter, refl, sym, ap, ◌∙◌, arith, subst}
use Rattle.std.specs.declared.cmp.Ordering.{Ordering}
use Rattle.std.specs.Ordering.{nat_cmp, eq_by_cmp, is_eq, on, ordering_then}
use Rattle.std.specs.Cmp.{IsTotalOrder, nat_cmp_total, on_total, then_total}
use Rattle.std.specs.Cmp.Lexicographic.{slice_cmp, nat_list_cmp_total, on_texts}
use Rattle.std.specs.List.{AllByRecursion, Contains}
use Rattle.std.specs.List.Sorted.{IsSorted, IsStrictlySortedBy, IsPermutation}
use Rattle.std.specs.FinSet.{from_list, contains}
use Rattle.std.proofs.lemmas.Cmp.{eq_by_cmp_equiv}
use Rattle.std.proofs.lemmas.List.Elements.{All-from_recursion, All-contains}
use Rattle.std.proofs.lemmas.List.Kept.{IsStrictlySortedBy-filter}
use Rattle.std.proofs.lemmas.List.Sorted.{Contains-permutation, IsPermutation-sym}
use Rattle.std.proofs.lemmas.Map.Keys.{IsDistinct-from_sorted, IsDistinct-IsPermutation}
use Rattle.archive_core.specs.Record.{record_bytes, IsOperation}
use Rattle.archive_core.specs.Content.{Operations, IsContent}
use Rattle.archive_core.specs.Find.{key_in, arch_cmp, find_cmp, IsFoundUnder, row_of}
use Rattle.archive_core.specs.InnerHeld.{IsHeld}
use Rattle.archive_core.specs.declared.operations.Operation.{Operation}
use Rattle.archive_core.specs.declared.operations.Operation.TheVariants.{Admit, Retire}
use Rattle.archive_core.proofs.Records.{one_operation}
use Rattle.archive_core.proofs.Words.{live_in_content}
use Rattle.archive_core.specs.Lists.{list_cmp, IsListed, IsList}
use Rattle.archive_core.proofs.Made.{bytes_same}
use Rattle.archive_core.proofs.Members.{in_made, in_filter, to_filter, in_map, to_map, ascending_by, distinct_finer, ascending_from_distinct}

-- the order of rows is a total order
pub find_total : IsTotalOrder find_cmp
find_total = then_total (on_total (λ operation. (key_in operation).arch)
    (then_total (on_total (λ arch. arch.cputype) nat_cmp_total) (on_total (λ arch. arch.cpusubtype) nat_cmp_total)))
    (on_texts record_bytes)

-- what the second order tells apart is not tied
pub untied : (r s : Ordering) → is_eq s ≡ false → is_eq (ordering_then r s) ≡ false
untied r s h = grind arith

-- operations that the order of rows ties have one record
pub untied_records : (a b : Operation) → eq_by_cmp (on record_bytes (slice_cmp nat_cmp)) a b ≡ false → eq_by_cmp find_cmp a b ≡ false
untied_records a b = untied (arch_cmp (key_in a).arch (key_in b).arch) (slice_cmp nat_cmp (record_bytes a) (record_bytes b))

-- an operation among others has its record among theirs
pub record_there : (operations : List Operation) (a : Operation) → Contains operations a
    → contains (from_list {R = slice_cmp nat_cmp} (map record_bytes operations)) (record_bytes a) ≡ true
record_there operations a h = (in_made nat_list_cmp_total bytes_same (map record_bytes operations) (record_bytes a)).0 (to_map record_bytes operations a h)

-- and where its record is among theirs, it is one of them
pub operation_there : (operations : List Operation) (a : Operation) → AllByRecursion IsOperation operations
    → IsOperation a → contains (from_list {R = slice_cmp nat_cmp} (map record_bytes operations)) (record_bytes a) ≡ true
    → Contains operations a
operation_there operations a known is_a h =
    let found = in_map record_bytes operations (record_bytes a) ((in_made nat_list_cmp_total bytes_same (map record_bytes operations) (record_bytes a)).1 h) in
    let is_one = All-contains IsOperation operations found.0 (All-from_recursion IsOperation operations known) found.1 in
    subst (Contains operations) (sym (one_operation a found.0 is_a is_one found.2)) found.1

-- operations that are told: all that have a fact, strictly ascending
pub record AreTold (R : Operation → Operation → Ordering) (P : Operation → Type 0) (told : List Operation) : Type 0 where
  pub ascending : IsStrictlySortedBy R told
  pub exactly : (a : Operation) → Contains told a ↔ (IsOperation a × P a)

-- those of a content that pass a test, sorted, are told where the test decides the fact
module _ (o : Operations) (R : Operation → Operation → Ordering) (total : IsTotalOrder R)
    (apart : (a b : Operation) → eq_by_cmp (on record_bytes (slice_cmp nat_cmp)) a b ≡ false → eq_by_cmp R a b ≡ false)
    (test : Operation → Bool) (P : Operation → Type 0)
    (by_test : (a : Operation) → IsOperation a → contains o (record_bytes a) ≡ true → test a ≡ true → P a)
    (of_fact : (a : Operation) → P a → (contains o (record_bytes a) ≡ true) × (test a ≡ true)) where
  pub told_sorted : (operations told : List Operation) → IsHeld operations → from_list (map record_bytes operations) ≡ o
      → IsPermutation (filter test operations) told → IsSorted R told → AreTold R P told
  told_sorted operations told held is permuted sorted =
      let by_record = IsStrictlySortedBy-filter (on record_bytes (slice_cmp nat_cmp)) test operations
      (ascending_by (slice_cmp nat_cmp) record_bytes operations held.ascending) in
      let differ = distinct_finer (eq_by_cmp (on record_bytes (slice_cmp nat_cmp))) (eq_by_cmp R) apart
      (filter test operations) (IsDistinct-from_sorted (on record_bytes (slice_cmp nat_cmp))
      (filter test operations) by_record) in
      record {
        ascending = ascending_from_distinct total told sorted
            (IsDistinct-IsPermutation (eq_by_cmp R) (eq_by_cmp_equiv total).symm (filter test operations) told permuted
            differ);
        exactly = λ a. (to a, back a);
      }
    where
      to : (a : Operation) → Contains told a → IsOperation a × P a
      to a h =
          let kept = in_filter test operations a (Contains-permutation told (filter test operations) a
          (IsPermutation-sym (filter test operations) told permuted) h) in
          let known = All-contains IsOperation operations a (All-from_recursion IsOperation operations held.are) kept.0 in
          (known, by_test a known (ap (λ s. contains s (record_bytes a)) (sym is) ∙ record_there operations a kept.0) kept.1)

      back : (a : Operation) → IsOperation a × P a → Contains told a
      back a h =
          let tested = of_fact a h.1 in
          let there = operation_there operations a held.are h.0 (ap (λ s. contains s (record_bytes a)) is ∙ tested.0) in
          Contains-permutation (filter test operations) told a permuted (to_filter test operations a there tested.1)

-- the order of a list is a total order
pub list_total : IsTotalOrder list_cmp
list_total = then_total (on_texts (λ operation. (key_in operation).uuid)) find_total

pub untied_in_list : (a b : Operation) → eq_by_cmp (on record_bytes (slice_cmp nat_cmp)) a b ≡ false → eq_by_cmp list_cmp a b ≡ false
untied_in_list a b h = untied (slice_cmp nat_cmp (key_in a).uuid (key_in b).uuid) (find_cmp a b) (untied_records a b h)

-- what a content has is listed
pub listed_of_content : (o : Operations) (a : Operation) → IsContent o → IsOperation a → contains o (record_bytes a) ≡ true → IsListed o a
listed_of_content o (Admit slice) content valid there = (refl, live_in_content o slice content valid there)
listed_of_content o (Retire key digest) content is there = (refl, there)

pub content_of_listed : (o : Operations) (a : Operation) → IsListed o a → (contains o (record_bytes a) ≡ true) × (true ≡ true)
content_of_listed o (Admit slice) h = (h.1.admitted, refl)
content_of_listed o (Retire key digest) h = (h.1, refl)

all_pass : (xs : List Operation) → filter (λ a. true) xs ≡ xs
all_pass [] = refl
all_pass (x ∷ xs) = ap (λ l. x ∷ l) (all_pass xs)

-- the operations, sorted, make the list
pub list_sorted : (o : Operations) (operations told : List Operation) → IsContent o → IsHeld operations → from_list (map record_bytes operations) ≡ o
    → IsPermutation operations told → IsSorted list_cmp told → IsList o (map row_of told)
list_sorted o operations told content held is permuted sorted =
    let are = told_sorted o list_cmp list_total untied_in_list (λ a. true) (IsListed o)
    (λ a one there _. listed_of_content o a content one there) (content_of_listed o) operations told held is
    (subst (λ l. IsPermutation l told) (sym (all_pass operations)) permuted) sorted in
    record { operations = told; ascending = are.ascending; exactly = are.exactly; rows_are = refl }

-- what is told under a UUID is under it
pub found_under : (o : Operations) (uuid : List ℕ) (a : Operation) → IsFoundUnder o uuid a → (key_in a).uuid ≡ uuid
found_under o uuid (Admit slice) h = h.0
found_under o uuid (Retire key digest) h = h.0
