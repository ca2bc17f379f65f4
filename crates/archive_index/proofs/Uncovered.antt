-- Where no retirement is among operations, and where none of them is covered by one.
use Rattle.std.proofs.Common.{◌≡◌, ℕ, Bool, true, false, not, ◌&&◌, cond, List, [], ◌∷◌, map, filter, take, drop, slice_get, get_or, Some, refl, sym, ap, ◌∙◌}
use Rattle.std.proofs.lemmas.Bool.{or_from, false_from_ne_true}
use Rattle.std.specs.declared.cmp.Ordering.TheVariants.{Less}
use Rattle.std.specs.Ordering.{nat_cmp, eq_by_cmp, is_eq}
use Rattle.std.specs.Cmp.{tied_itself}
use Rattle.std.specs.Cmp.Lexicographic.{slice_cmp, nat_list_cmp_total}
use Rattle.std.specs.List.{AllByRecursion, All, list_any}
use Rattle.std.specs.List.Sorted.{IsStrictlySortedBy}
use Rattle.std.proofs.lemmas.List.Elements.{All-take, All-drop, All-from_recursion, recursion_from_All}
use Rattle.std.specs.FinSet as set
use Rattle.std.specs.FinSet.{from_list, contains-from_list, contains-insert, contains-empty}
use Rattle.sha2.specs.Sha256.{sha256}
use Rattle.archive_core.specs.Key.{IsKey, key_bytes}
use Rattle.archive_core.specs.Valid.{key_of, IsValid}
use Rattle.archive_core.specs.Record.{record_bytes, admission_record, retirement_record, IsOperation}
use Rattle.archive_core.specs.Content.{Operations, is_admission, key_and_digest, covering, is_covered}
use Rattle.archive_core.specs.InnerHeld.{IsHeld}
use Rattle.archive_index.specs.InnerRange.{is_under_key}
use Rattle.archive_core.specs.declared.keys.Digest.{Digest}
use Rattle.archive_core.specs.declared.keys.SliceKey.{SliceKey}
use Rattle.archive_core.specs.declared.operations.Operation.{Operation}
use Rattle.archive_core.specs.declared.operations.Operation.TheVariants.{Admit, Retire}
use Rattle.archive_index.specs.declared.range.RecordKind.TheVariants.{Admission}
use Rattle.archive_core.proofs.Compare.{length_key_bytes}
use Rattle.archive_core.proofs.Records.{same_parts, length-key_of}
use Rattle.archive_core.proofs.Made.{and_false}
use Rattle.archive_core.proofs.Taken.{tied_is}
use Rattle.archive_index.proofs.Falling.{filter_all, outside}
use Rattle.archive_index.proofs.Put.{covered_slice}

-- after an admission no retirement stands
none_behind : (slice front : List ℕ) (xs : List Operation)
    → AllByRecursion (λ r. slice_cmp nat_cmp (admission_record slice) r ≡ Less) (map record_bytes xs)
    → list_any (eq_by_cmp (slice_cmp nat_cmp) (1 ∷ front)) (map record_bytes xs) ≡ false
none_behind slice front [] up = refl
none_behind slice front (Admit other ∷ xs) up = none_behind slice front xs up.1
none_behind slice front (Retire key digest ∷ xs) up = cc

-- where the first of operations that ascend is no retirement, they cover nothing
pub covers_none : (operations : List Operation) → IsHeld operations
    → ((key : SliceKey) (digest : Digest) → slice_get operations 0 ≡ Some (Retire key digest) → ⊥)
    → (r : List ℕ) → is_covered (from_list (map record_bytes operations)) r ≡ false
unfolding IsStrictlySortedBy
covers_none [] held h r = ap (λ b. is_admission r && b) (contains-empty (slice_cmp nat_cmp) (covering r)) ∙ and_false (is_admission r)
covers_none (Admit slice ∷ xs) held h r =
    ap (λ b. is_admission r && b) (contains-from_list nat_list_cmp_total (map record_bytes (Admit slice ∷ xs))
    (covering r) ∙ none_behind slice (key_and_digest r) xs held.ascending.0)
    ∙ and_false (is_admission r)
covers_none (Retire key digest ∷ xs) held h r = absurd (h key digest refl)

-- and then nothing is dropped
pub none_dropped : (o : Operations) (operations : List Operation) → ((r : List ℕ) → is_covered o r ≡ false)
    → filter (λ operation. not (is_covered o (record_bytes operation))) operations ≡ operations
none_dropped o operations none = filter_all (λ operation. not (is_covered o (record_bytes operation))) operations
    (recursion_from_All _ operations (λ k d lt. ap not (none (record_bytes (get_or operations k d)))))

-- a retirement alone, as a set
only : SliceKey → Digest → Operations
only key digest = set.insert (set.empty {R = slice_cmp nat_cmp}) (retirement_record key digest.0)

-- a slice of another key is not covered by it
other_key : (key : SliceKey) (digest : Digest) (slice : List ℕ) → IsKey key → IsValid slice
    → is_under_key Admission key (Admit slice) ≡ false → is_covered (only key digest) (admission_record slice) ≡ false
unfolding only
other_key key digest slice is_key valid apart =
    rw (
      covered_slice (only key digest) slice valid,
      contains-insert nat_list_cmp_total set.empty
          (retirement_record key digest.0) (retirement_record (key_of slice) (sha256 slice)),
      contains-empty (slice_cmp nat_cmp) (retirement_record (key_of slice) (sha256 slice)),
    )
    (or_from _ false (false_from_ne_true _ (λ h.
    let same : retirement_record (key_of slice) (sha256 slice) ≡ retirement_record key digest.0 = tied_is _ _ h in
    let keys = (same_parts (key_bytes (key_of slice)) (key_bytes key) (sha256 slice) digest.0
    (length-key_of slice valid ∙ sym (length_key_bytes key is_key.uuid)) (ap (drop 1) same)).0 in
    cc (ap is_eq (tied_itself nat_list_cmp_total (2 ∷ key_bytes key)), rw keys at apart))) refl)

-- so where no slice of its key is there, none of the operations is
none_under : (key : SliceKey) (digest : Digest) (xs : List Operation) → IsKey key → AllByRecursion IsOperation xs → filter (is_under_key Admission key) xs ≡ []
    → AllByRecursion (λ operation. not (is_covered (only key digest) (record_bytes operation)) ≡ true) xs
none_under key digest [] is_key are none = tt
none_under key digest (Retire other d ∷ xs) is_key are none = (refl, none_under key digest xs is_key are.1 none)
none_under key digest (Admit slice ∷ xs) is_key are none = by (is_under_key Admission key (Admit slice)) refl none (none_under key digest xs is_key are.1)
  where
    by : (b : Bool) → is_under_key Admission key (Admit slice) ≡ b
        → cond b (Admit slice ∷ filter (is_under_key Admission key) xs) (filter (is_under_key Admission key) xs) ≡ []
        → (filter (is_under_key Admission key) xs ≡ [] → AllByRecursion (λ operation. not (is_covered (only key digest) (record_bytes operation)) ≡ true) xs)
        → AllByRecursion (λ operation. not (is_covered (only key digest) (record_bytes operation)) ≡ true) (Admit slice ∷ xs)
    by true h some rest = cc
    by false h none rest = (ap not (other_key key digest slice is_key are.0 h), rest none)

-- whether a retirement leaves an operation
abbrev pub left_by : SliceKey → Digest → Operation → Bool
left_by key digest operation = not (is_covered (from_list (map record_bytes (Retire key digest ∷ []))) (record_bytes operation))

-- where none of its key is there, it leaves all
all_left : (key : SliceKey) (digest : Digest) (xs : List Operation) → IsKey key → All IsOperation xs
    → filter (is_under_key Admission key) xs ≡ [] → filter (left_by key digest) xs ≡ xs
unfolding only
all_left key digest xs is_key are none = filter_all (left_by key digest) xs (none_under key digest xs is_key (recursion_from_All IsOperation xs are) none)

module _ (key : SliceKey) (digest : Digest) (xs : List Operation) (i j : ℕ) (is_key : IsKey key)
    (are : AllByRecursion IsOperation xs) (run : take j (drop i xs) ≡ filter (is_under_key Admission key) xs) where
  -- so it leaves what stands before the run of its key
  pub front_left : filter (left_by key digest) (take i xs) ≡ take i xs
  front_left = all_left key digest (take i xs) is_key (All-take IsOperation i xs
      (All-from_recursion IsOperation xs are)) (outside (is_under_key Admission key) xs i j run).0

  -- and after it
  pub back_left : filter (left_by key digest) (drop j (drop i xs)) ≡ drop j (drop i xs)
  back_left = all_left key digest (drop j (drop i xs)) is_key
      (All-drop IsOperation j (drop i xs) (All-drop IsOperation i xs (All-from_recursion IsOperation xs are)))
      (outside (is_under_key Admission key) xs i j run).1
