-- What is left of a plain archive's operations where some are dropped, and what a join of two archives makes.
use Rattle.std.proofs.Common.{◌≡◌, ◌+◌, ◌<◌, Bool, true, false, not, ◌||◌, ◌&&◌, List, ℕ, [], ◌∷◌, ◌++◌, length, map, filter, refl, sym, ap, ◌∙◌, arith}
use mathlib.Core.Bool.{and_comm}
use Rattle.std.specs.Ordering.{nat_cmp, is_lt, on, eq_by_cmp}
use Rattle.std.specs.List.{dedup, AllByRecursion, list_all, list_any}
use Rattle.std.specs.Cmp.Lexicographic.{slice_cmp, nat_list_cmp_total}
use Rattle.std.specs.List.Sorted.{IsSorted, IsSortedBy, IsPermutation}
use Rattle.std.specs.FinSet.{from_list, contains, union, same_set, contains-from_list, contains-union}
use Rattle.std.proofs.lemmas.List.{map-append, get_or-map}
use Rattle.std.proofs.Math.ListN.{length-map}
use Rattle.std.proofs.lemmas.List.Filters.{All-dedup}
use Rattle.std.proofs.lemmas.List.Kept.{IsStrictlySortedBy-filter}
use Rattle.std.proofs.lemmas.List.Elements.{All-filter, All-append, All-from_recursion, recursion_from_All}
use Rattle.std.proofs.lemmas.List.Sorted.{IsPermutation-map, All-permutation}
use Rattle.std.proofs.lemmas.Map.Views.{any-filter_same}
use Rattle.join_core.proofs.SortedUnion.{map_dedup, deduped_is, from_list_append, along_members}
use Rattle.archive_core.specs.Record.{record_bytes, IsOperation}
use Rattle.archive_core.specs.Content.{Operations, IsMade, IsBelow, is_admission, covering, is_covered, changes, joined}
use Rattle.archive_core.specs.InnerHeld.{IsHeld}
use Rattle.archive_core.specs.declared.operations.Operation.{Operation}
use Rattle.archive_index.specs.InnerOrder.{IsOrderOf}
use Rattle.archive_core.proofs.Made.{bytes_same, and_left, and_right, and_true, contains_made, made_part, made_again, uncovered_of_made}
use Rattle.archive_core.proofs.Taken.{tied_is}
use Rattle.archive_index.proofs.Held.{each_member}

-- the operations that are sorted by their records have sorted records
sorted_records : (operations : List Operation) → IsSortedBy
    (λ x y. is_lt (slice_cmp nat_cmp (record_bytes x) (record_bytes y))) operations
    → IsSorted (slice_cmp nat_cmp) (map record_bytes operations)
sorted_records [] up k d low high = absurd (omega arith)
sorted_records (x ∷ xs) up k d low high =
    let lt : k + 1 < length (x ∷ xs) = rw (length-map {A = Operation}) at high in
    rw (get_or-map record_bytes (x ∷ xs) (k + 1) x d lt, get_or-map record_bytes (x ∷ xs) k x d (omega arith)) (up k x (omega arith) lt)

-- sorted operations of which each is kept once are in order
pub ordered : (operations sorted : List Operation) → IsPermutation operations sorted
    → IsSortedBy (λ x y. is_lt (slice_cmp nat_cmp (record_bytes x) (record_bytes y))) sorted
    → IsOrderOf operations (dedup (eq_by_cmp (on record_bytes (slice_cmp nat_cmp))) sorted)
ordered operations sorted permuted up =
    let kept = dedup (eq_by_cmp (on record_bytes (slice_cmp nat_cmp))) sorted in
    let records : map record_bytes kept ≡ dedup (eq_by_cmp (slice_cmp nat_cmp)) (map record_bytes sorted) =
    map_dedup record_bytes (eq_by_cmp (slice_cmp nat_cmp)) sorted in
    let both = deduped_is nat_list_cmp_total bytes_same [] (map record_bytes operations) (map record_bytes sorted)
    (IsPermutation-map record_bytes operations sorted permuted) (sorted_records sorted up) in
    record {
      ascending = rw records both.ascending;
      same = rw records (both.members ∙ sym (from_list_append nat_list_cmp_total bytes_same [] (map record_bytes operations)));
      are = λ all. recursion_from_All IsOperation kept
          (All-dedup (eq_by_cmp (on record_bytes (slice_cmp nat_cmp))) IsOperation sorted
          (All-permutation IsOperation operations sorted permuted (All-from_recursion IsOperation operations all)));
    }

-- the records of the operations that pass a test are the records that do
pub records_filtered : (p : List ℕ → Bool) (operations : List Operation)
    → map record_bytes (filter (λ operation. p (record_bytes operation)) operations)
    ≡ filter p (map record_bytes operations)
records_filtered p [] = refl
records_filtered p (x ∷ xs) = grind (arith, records_filtered p xs)

-- the set of the keys that pass a test
pub contains_filtered : (p : List ℕ → Bool) (ks : List (List ℕ)) (q : List ℕ)
    → contains (from_list {R = slice_cmp nat_cmp} (filter p ks)) q
    ≡ (contains (from_list {R = slice_cmp nat_cmp} ks) q && p q)
contains_filtered p ks q =
    rw (
      contains-from_list nat_list_cmp_total (filter p ks) q,
      contains-from_list nat_list_cmp_total ks q,
      any-filter_same (eq_by_cmp (slice_cmp nat_cmp) q) p (p q) (λ k t. ap p (sym (tied_is q k t))) ks,
    )
    (and_comm (p q) (list_any (eq_by_cmp (slice_cmp nat_cmp) q) ks))

-- what is left of operations
pub contains_left : (p : List ℕ → Bool) (operations : List Operation) (q : List ℕ)
    → contains (from_list {R = slice_cmp nat_cmp} (map record_bytes
    (filter (λ operation. p (record_bytes operation)) operations))) q
    ≡ (contains (from_list {R = slice_cmp nat_cmp} (map record_bytes operations)) q && p q)
contains_left p operations q = ap (λ l. contains (from_list {R = slice_cmp nat_cmp} l) q)
    (records_filtered p operations) ∙ contains_filtered p (map record_bytes operations) q

pub are_left : (p : Operation → Bool) (operations : List Operation) → AllByRecursion IsOperation operations → AllByRecursion IsOperation (filter p operations)
are_left p operations are = recursion_from_All IsOperation (filter p operations)
    (All-filter p IsOperation operations (All-from_recursion IsOperation operations are))

pub are_both : (mine theirs : List Operation) → AllByRecursion IsOperation mine → AllByRecursion IsOperation theirs
    → AllByRecursion IsOperation (mine ++ theirs)
are_both mine theirs a b = recursion_from_All IsOperation (mine ++ theirs)
    (All-append IsOperation mine theirs (All-from_recursion IsOperation mine a)
    (All-from_recursion IsOperation theirs b))

-- is held where all were
pub held_left : (p : List ℕ → Bool) (operations : List Operation) → IsHeld operations → IsHeld (filter (λ operation. p (record_bytes operation)) operations)
held_left p operations held = record {
  ascending = rw (records_filtered p operations) (IsStrictlySortedBy-filter (slice_cmp nat_cmp) p (map record_bytes operations) held.ascending);
  are = are_left (λ operation. p (record_bytes operation)) operations held.are;
  itself = made_part _ (from_list (map record_bytes operations)) held.itself (λ r h. and_left _ _ (sym (contains_left p operations r) ∙ h));
}

-- x and y stand for members of the one and of the other, c and d for what retires them there
both_uncovered : (x y a c d : Bool) → (x ≡ true → (a && c) ≡ false) → (y ≡ true → (a && d) ≡ false)
    → ((x && not (a && d)) || (y && not (a && c))) ≡ ((x || y) && not (a && (c || d)))
both_uncovered x y a c d f g = grind arith

-- Operations in order that are those of the join.
pub record HoldsJoin (o p : Operations) (operations : List Operation) : Type 0 where
  pub held : IsHeld operations
  pub is : from_list {R = slice_cmp nat_cmp} (map record_bytes operations) ≡ joined o p

-- a list that has of each of two contents what the other does not cover is in order that of the join
settled : (o p : Operations) (all operations : List Operation) → IsMade o → IsMade p
    → ((r : List ℕ) → contains (from_list {R = slice_cmp nat_cmp} (map record_bytes all)) r
    ≡ ((contains o r && not (is_covered p r)) || (contains p r && not (is_covered o r))))
    → AllByRecursion IsOperation all → IsOrderOf all operations → HoldsJoin o p operations
settled o p all operations made_o made_p members are order =
    let same : from_list {R = slice_cmp nat_cmp} (map record_bytes operations) ≡ joined o p =
    order.same ∙ same_set nat_list_cmp_total bytes_same _ (joined o p) (λ r.
    rw (members r, contains_made (union o p) r, contains-union nat_list_cmp_total o p r, contains-union nat_list_cmp_total o p (covering r))
    (both_uncovered (contains o r) (contains p r) (is_admission r) _ _ (uncovered_of_made o made_o r) (uncovered_of_made p made_p r))) in
    record {
      held = record { ascending = order.ascending; are = order.are are; itself = rw same (made_again (union o p)) };
      is = same;
    }

contains_both : (mine theirs : List Operation) (r : List ℕ)
    → contains (from_list {R = slice_cmp nat_cmp} (map record_bytes (mine ++ theirs))) r
    ≡ (contains (from_list {R = slice_cmp nat_cmp} (map record_bytes mine)) r
    || contains (from_list {R = slice_cmp nat_cmp} (map record_bytes theirs)) r)
contains_both mine theirs r =
    rw (
      map-append record_bytes mine theirs,
      from_list_append nat_list_cmp_total bytes_same (map record_bytes mine)
          (map record_bytes theirs),
    ) (contains-union nat_list_cmp_total (from_list (map record_bytes mine))
    (from_list (map record_bytes theirs)) r)

-- what is left of operations covers what they cover
covers_left : (p : Operations) (mine : List Operation) (r : List ℕ)
    → is_covered (from_list (map record_bytes (filter (λ operation. not (is_covered p (record_bytes operation))) mine)))
    r ≡ is_covered (from_list (map record_bytes mine)) r
covers_left p mine r = ap (λ b. is_admission r && b) (contains_left (λ x. not (is_covered p x)) mine (covering r)
    ∙ and_true (contains (from_list {R = slice_cmp nat_cmp} (map record_bytes mine)) (covering r)))

-- a and b stand for members of the one and of the other, c and d for what each of them covers
with_missing : (a b c d : Bool) → (a ≡ true → c ≡ false) → (b ≡ true → d ≡ false) → ((a || (b && not (a || c))) && not d) ≡ ((a && not d) || (b && not c))
with_missing a b c d f g = grind arith

-- an archive's operations and those of another that it does not know, without those that the other covers, in order
pub completed_is : (mine theirs missing all left operations : List Operation) (o p q : Operations) → IsHeld mine
    → IsHeld theirs → from_list (map record_bytes mine) ≡ o → from_list (map record_bytes theirs) ≡ p
    → missing ≡ filter (λ operation. changes o (record_bytes operation)) theirs → all ≡ mine ++ missing → q ≡ p → left
    ≡ filter (λ operation. not (is_covered q (record_bytes operation))) all
    → IsOrderOf left operations → HoldsJoin o p operations
unfolding changes
completed_is mine theirs missing all left operations o p q held_mine held_theirs is_o is_p missing_is all_is q_is left_is order =
    let made_o : IsMade o = rw is_o at held_mine.itself in
    let made_p : IsMade p = rw is_p at held_theirs.itself in
    settled o p left operations made_o made_p
    (λ r.
    rw (
      left_is,
      q_is,
      all_is,
      contains_left (λ x. not (is_covered p x)) (mine ++ missing) r,
      contains_both mine missing r,
      missing_is,
      contains_left (λ x. changes o x) theirs r,
      is_o,
      is_p,
    )
    (with_missing (contains o r) (contains p r) (is_covered o r) (is_covered p r) (uncovered_of_made o made_o r) (uncovered_of_made p made_p r)))
    (rw (left_is, all_is) (are_left _ (mine ++ missing) (are_both mine missing held_mine.are (rw missing_is (are_left _ theirs held_theirs.are)))))
    order

-- each side's operations that the other does not cover, in order
pub merged_is : (mine theirs first second all operations : List Operation) (o p q : Operations) → IsHeld mine
    → IsHeld theirs → from_list (map record_bytes mine) ≡ o → from_list (map record_bytes theirs) ≡ p
    → first ≡ filter (λ operation. not (is_covered p (record_bytes operation))) mine → q
    ≡ from_list (map record_bytes first) → second ≡ filter
    (λ operation. not (is_covered q (record_bytes operation))) theirs
    → all ≡ first ++ second → IsOrderOf all operations → HoldsJoin o p operations
merged_is mine theirs first second all operations o p q held_mine held_theirs is_o is_p first_is q_is second_is all_is order =
    settled o p all operations (rw is_o at held_mine.itself) (rw is_p at held_theirs.itself)
    (λ r. rw (
      all_is,
      contains_both first second r,
      second_is,
      contains_left (λ x. not (is_covered q x)) theirs r,
      q_is,
      first_is,
      contains_left (λ x. not (is_covered p x)) mine r,
      covers_left p mine r,
      is_o,
      is_p,
    ) refl)
    (rw all_is (are_both first second (rw first_is (are_left _ mine held_mine.are)) (rw second_is (are_left _ theirs held_theirs.are))))
    order

-- an archive has what it knows of another: that is below it
knows_along : (o : Operations) (operations : List Operation)
    → list_all (λ operation. contains o (record_bytes operation) || is_covered o (record_bytes operation)) operations
    ≡ true → AllByRecursion (λ r. (contains o r || is_covered o r) ≡ true) (map record_bytes operations)
knows_along o [] h = tt
knows_along o (x ∷ xs) h = (and_left _ _ h, knows_along o xs (and_right _ _ h))

along_knows : (o : Operations) (operations : List Operation)
    → AllByRecursion (λ r. (contains o r || is_covered o r) ≡ true) (map record_bytes operations)
    → list_all (λ operation. contains o (record_bytes operation) || is_covered o (record_bytes operation)) operations
    ≡ true
along_knows o [] all = refl
along_knows o (x ∷ xs) all = rw all.0 (along_knows o xs all.1)

pub known_is_below : (o : Operations) (operations : List Operation)
    → list_all (λ operation. contains o (record_bytes operation) || is_covered o (record_bytes operation)) operations
    ≡ true → IsBelow (from_list (map record_bytes operations)) o
known_is_below o operations all =
    let each = each_member (λ r. (contains o r || is_covered o r) ≡ true) (map record_bytes operations) (knows_along o operations all) in
    record { retirements = λ r n h. grind (arith, each r h); live = λ r a h _. grind (arith, each r h) }

pub below_is_known : (o : Operations) (operations : List Operation) → IsHeld operations
    → IsBelow (from_list (map record_bytes operations)) o
    → list_all (λ operation. contains o (record_bytes operation) || is_covered o (record_bytes operation)) operations
    ≡ true
below_is_known o operations held below = along_knows o operations
    (along_members nat_list_cmp_total (λ r. (contains o r || is_covered o r) ≡ true) (map record_bytes operations)
    (λ r h.
    grind (arith, below.live r, below.retirements r, uncovered_of_made (from_list (map record_bytes operations)) held.itself r)))
