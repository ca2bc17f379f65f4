-- What a plain archive keeps after one operation was taken.
use Rattle.std.proofs.Common.{◌≡◌, ℕ, ◌+◌, arith, Bool, true, false, not, ◌||◌, ◌&&◌, List, [], ◌∷◌, map, filter, refl, ap, ◌∙◌}
use Rattle.std.specs.Ordering.{nat_cmp, eq_by_cmp}
use Rattle.std.specs.Cmp.Lexicographic.{slice_cmp, nat_list_cmp_total}
use Rattle.std.specs.List.{insert as insert_at, list_all}
use Rattle.std.specs.List.Sorted.{IsStrictlySortedBy}
use Rattle.std.specs.FinSet as set
use Rattle.std.specs.FinSet.{contains, from_list, contains-insert, contains-empty, same_set}
use Rattle.std.proofs.lemmas.List.Kept.{IsStrictlySortedBy-filter}
use Rattle.join_core.specs.InnerSearch.{IsPlaceFor}
use Rattle.archive_core.specs.Valid.{IsValid}
use Rattle.archive_core.specs.Record.{record_bytes, admission_record, IsOperation}
use Rattle.archive_core.specs.Content.{Operations, is_admission, covering, is_covered, IsMade, with_record, with_records, new_among}
use Rattle.archive_core.specs.InnerHeld.{IsHeld}
use Rattle.archive_core.specs.declared.operations.Operation.{Operation}
use Rattle.archive_core.specs.declared.operations.Operation.TheVariants.{Admit}
use Rattle.archive_core.proofs.Made.{bytes_same, and_left, and_right, and_false, contains_made, made_again, made_of_uncovered, uncovered_of_made}
use Rattle.archive_core.proofs.Taken.{still_uncovered, len_with, tied_is}
pub use Rattle.archive_core.proofs.Taken.{made_with_admission}
pub use Rattle.archive_core.proofs.Words.{covered_slice}
use Rattle.archive_index.proofs.Held.{held_insert, records_insert, map_insert, along_insert}
use Rattle.archive_index.proofs.Merged.{contains_left, records_filtered, are_left}

-- an admission that is not covered goes in at its place
pub held_admission : (operations : List Operation) (i : ℕ) (slice : List ℕ) → IsHeld operations → IsValid slice
    → IsPlaceFor (slice_cmp nat_cmp) (map record_bytes operations) (admission_record slice) i
    → is_covered (from_list (map record_bytes operations)) (admission_record slice) ≡ false → IsHeld (insert_at operations i (Admit slice))
held_admission operations i slice held valid asked free =
    held_insert operations i (Admit slice) held valid asked
    (rw (records_insert operations i (Admit slice)) (made_with_admission (from_list (map record_bytes operations))
    (admission_record slice) held.itself refl free))

covers_alike : (t x a u c : Bool) → (t ≡ true → a ≡ false) → (x ≡ true → (a && c) ≡ false)
    → ((t || x) && not (a && (u || false))) ≡ ((t || x) && not (a && (u || c)))
covers_alike t x a u c f g = grind arith

-- the content without what a retirement covers is that with the retirement
with_retirement : (o left : Operations) (r : List ℕ) → IsMade o → is_admission r ≡ false
    → ((q : List ℕ) → contains left q ≡ (contains (set.insert o r) q
    && not (is_covered (set.insert (set.empty {R = slice_cmp nat_cmp}) r) q))) → left ≡ with_record o r
with_retirement o left r made n is = same_set nat_list_cmp_total bytes_same left (with_record o r) (λ q.
    rw (
      is q,
      contains_made (set.insert o r) q,
      contains-insert nat_list_cmp_total o r q,
      contains-insert nat_list_cmp_total o r (covering q),
      contains-insert nat_list_cmp_total set.empty r (covering q),
      contains-empty (slice_cmp nat_cmp) (covering q),
    )
    (covers_alike (eq_by_cmp (slice_cmp nat_cmp) q r) (contains o q) _ _ _ (λ t. ap is_admission (tied_is q r t) ∙ n) (uncovered_of_made o made q)))

-- one operation alone is held
pub held_alone : (operation : Operation) → IsOperation operation → IsHeld (operation ∷ [])
unfolding IsStrictlySortedBy
held_alone operation is = record {
  ascending = (tt, tt);
  are = (is, tt);
  itself = made_of_uncovered (set.insert set.empty (record_bytes operation)) (λ q h.
      let same = tied_is q (record_bytes operation) (grind (
        arith,
        contains-insert nat_list_cmp_total set.empty (record_bytes operation) q,
        contains-empty (slice_cmp nat_cmp) q,
      )) in
      rw same (still_uncovered set.empty (record_bytes operation)
      (rw (contains-empty (slice_cmp nat_cmp) (covering (record_bytes operation)))
      (and_false (is_admission (record_bytes operation))))));
}

-- Operations in order that are those of a content with one more.
pub record HoldsWith (o : Operations) (r : List ℕ) (operations : List Operation) : Type 0 where
  pub held : IsHeld operations
  pub is : from_list {R = slice_cmp nat_cmp} (map record_bytes operations) ≡ with_record o r

-- a retirement goes in at its place, and what it covers is dropped
pub held_retirement : (operations : List Operation) (i : ℕ) (retirement : Operation) → IsHeld operations
    → IsOperation retirement → is_admission (record_bytes retirement) ≡ false
    → IsPlaceFor (slice_cmp nat_cmp) (map record_bytes operations) (record_bytes retirement) i
    → HoldsWith (from_list (map record_bytes operations)) (record_bytes retirement)
    (filter (λ operation. not (is_covered (from_list (map record_bytes (retirement ∷ [])))
    (record_bytes operation))) (insert_at operations i retirement))
held_retirement operations i retirement held is n asked =
    let more = insert_at operations i retirement in
    let test : List ℕ → Bool = λ r. not (is_covered (set.insert (set.empty {R = slice_cmp nat_cmp}) (record_bytes retirement)) r) in
    let same : from_list {R = slice_cmp nat_cmp} (map record_bytes
    (filter (λ operation. test (record_bytes operation)) more))
    ≡ with_record (from_list (map record_bytes operations)) (record_bytes retirement) =
    with_retirement (from_list (map record_bytes operations))
    (from_list (map record_bytes (filter (λ operation. test (record_bytes operation)) more)))
    (record_bytes retirement) held.itself n (λ q.
    contains_left test more q ∙ ap (λ s. contains s q && test q) (records_insert operations i retirement)) in
    record {
      held = record {
        ascending = rw (records_filtered test more) (IsStrictlySortedBy-filter (slice_cmp nat_cmp) test
            (map record_bytes more) (rw (map_insert operations i retirement) asked.ascending));
        are = are_left (λ operation. test (record_bytes operation)) more (along_insert IsOperation operations i retirement is held.are);
        itself = rw same (made_again (set.insert (from_list (map record_bytes operations)) (record_bytes retirement)));
      };
      is = same;
    }

-- admissions drop none, so each one that changes the content brings one member more
pub len_with_admissions : (o : Operations) (operations : List Operation) → IsMade o
    → list_all (λ operation. is_admission (record_bytes operation)) operations ≡ true
    → set.len (with_records o (map record_bytes operations)) ≡ set.len o + new_among o (map record_bytes operations)
unfolding new_among
len_with_admissions o [] made all = omega arith
len_with_admissions o (x ∷ xs) made all =
    let one = len_with o (record_bytes x) made (and_left _ _ all) in
    let rest = len_with_admissions (with_record o (record_bytes x)) xs (made_again (set.insert o (record_bytes x))) (and_right _ _ all) in
    omega (arith, one, rest)
