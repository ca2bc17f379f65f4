-- The operations of one kind under one key, or under one UUID, stand together.
use Rattle.std.proofs.Common.{◌≡◌, ℕ, ◌<◌, ◌≤◌, ◌-◌, ◌+◌, get_or, length-drop, Bool, true, false, cond, List, [], ◌∷◌}
use Rattle.std.proofs.Common.{◌++◌, length, map, filter, drop, None, refl, sym, ap, ◌∙◌, arith, append_assoc, w32, inl}
use Rattle.std.proofs.Common.{inr}
use Rattle.std.proofs.lemmas.Bool.{cases_lt, false_from_ne_true}
use Rattle.std.specs.declared.cmp.Ordering.{Ordering}
use Rattle.std.specs.declared.cmp.Ordering.TheVariants.{Less, Equal, Greater}
use Rattle.std.specs.Ordering.{nat_cmp, is_lt, is_le, is_gt, is_eq, ordering_then}
use Rattle.std.specs.Cmp.{Equal-is, both_ways, tied_itself}
use Rattle.std.specs.Cmp.Lexicographic.{slice_cmp, nat_list_cmp_total}
use Rattle.std.specs.List.{AllByRecursion, AllWithin, cons_option}
use Rattle.std.specs.List.Sorted.{IsStrictlySortedBy, IsPartitionedBy}
use Rattle.std.specs.FinSet.{from_list, contains}
use Rattle.std.specs.Int.{w64, to_be_bytes}
use Rattle.std.specs.Str.{bytes_eq}
use Rattle.std.proofs.lemmas.List.{append-nil, get_or_default, get_or-drop, get_or-map}
use Rattle.std.proofs.lemmas.List.Elements.{All-from_recursion}
use Rattle.std.proofs.lemmas.Map.Keys.{Less-from_sorted}
use Rattle.std.proofs.Math.ListN.{length-map}
use Rattle.std.proofs.lemmas.Slice.Eq.{bytes_eq-Decides}
use Rattle.sha2.specs.Sha256.{sha256}
use Rattle.sha2.proofs.Facts256.{length-sha256}
use Rattle.macho_image.proofs.Told.{uuid_of-length}
use Rattle.archive_core.specs.Key.{IsKey, key_bytes}
use Rattle.archive_core.specs.Valid.{key_of}
use Rattle.archive_core.specs.Record.{record_bytes, admission, admission_record, retirement_record, IsOperation}
use Rattle.archive_core.specs.InnerHeld.{IsHeld}
use Rattle.archive_core.specs.Find.{is_key}
use Rattle.archive_index.specs.InnerScan.{is_found_under, is_held_kind, held_in, held_among}
use Rattle.archive_core.specs.declared.keys.SliceKey.{SliceKey}
use Rattle.archive_core.specs.declared.operations.Operation.{Operation}
use Rattle.archive_core.specs.declared.operations.Operation.TheVariants.{Admit, Retire}
use Rattle.archive_core.proofs.Compare.{slice_cmp-append, length_key_bytes}
use Rattle.archive_core.proofs.Records.{length-key_of}
use Rattle.archive_index.proofs.Held.{bytes_same}
use Rattle.archive_core.proofs.Told.{operation_there}
use Rattle.archive_core.proofs.Members.{to_filter}
use Rattle.archive_core.proofs.Answering.{both, one_key}
use Rattle.archive_index.specs.InnerRange.{scope_prefix, prefix_of, is_within, is_under_key, is_under_uuid}
use Rattle.archive_index.specs.declared.range.RecordKind.{RecordKind}
use Rattle.archive_index.specs.declared.range.RecordKind.TheVariants.{Retirement, Admission}
use Rattle.archive_index.specs.declared.range.Scope.{Scope}
use Rattle.archive_index.specs.declared.range.Scope.TheVariants.{OfKey, OfUuid}
use Rattle.archive_index.proofs.Falling.{middle}

-- the bytes of a key after its UUID
arch_bytes : SliceKey → List ℕ
arch_bytes key = to_be_bytes w32 key.arch.cputype ++ to_be_bytes w32 key.arch.cpusubtype

-- the record of an operation after its tag and key, or after its tag and UUID
behind : Scope → Operation → List ℕ
behind (OfKey _) (Admit slice) = to_be_bytes w64 (length slice) ++ slice
behind (OfKey _) (Retire key digest) = digest.0
behind (OfUuid _) (Admit slice) = arch_bytes (key_of slice) ++ (to_be_bytes w64 (length slice) ++ slice)
behind (OfUuid _) (Retire key digest) = arch_bytes key ++ digest.0

record_parts : (scope : Scope) (a : Operation) → record_bytes a ≡ prefix_of scope a ++ behind scope a
unfolding admission key_bytes arch_bytes behind
record_parts (OfKey _) (Admit slice) = refl
record_parts (OfKey _) (Retire key digest) = refl
record_parts (OfUuid _) (Admit slice) = ap (λ r. 2 ∷ r) (append_assoc (key_of slice).uuid (arch_bytes (key_of slice)) (to_be_bytes w64 (length slice) ++ slice))
record_parts (OfUuid _) (Retire key digest) = ap (λ r. 1 ∷ r) (append_assoc key.uuid (arch_bytes key) digest.0)

-- how many bytes those are that a record begins with
front_length : Scope → ℕ
front_length (OfKey _) = 25
front_length (OfUuid _) = 17

length_front : (scope : Scope) (a : Operation) → IsOperation a → length (prefix_of scope a) ≡ front_length scope
unfolding key_of front_length
length_front (OfKey _) (Admit slice) valid = omega (arith, length-key_of slice valid)
length_front (OfKey _) (Retire key digest) is = omega (arith, length_key_bytes key is.0.uuid)
length_front (OfUuid _) (Admit slice) valid = omega (arith, uuid_of-length slice valid.image)
length_front (OfUuid _) (Retire key digest) is = omega (arith, is.0.uuid)

module _ (test : Ordering → Bool) (less : test Less ≡ true) (greater : test Greater ≡ false) where
  -- what is not above a text that passes, passes
  passes : (x y w : List ℕ) (r s : Ordering) → slice_cmp nat_cmp x y ≡ r → slice_cmp nat_cmp y w ≡ s → (t : Ordering)
      → ordering_then r t ≡ Less → test s ≡ true → test (slice_cmp nat_cmp x w) ≡ true
  passes x y w Less Less e f t h g = rw (nat_list_cmp_total.trans x y w e f) less
  passes x y w Less Equal e f t h g = let same = bytes_same y w f in rw (← same, e) less
  passes x y w Less Greater e f t h g = cc (sym g ∙ greater)
  passes x y w Equal s e f t h g = let same = bytes_same x y e in rw (same, f) g
  passes x y w Greater s e f t h g = cc

  rises : (scope : Scope) (w : List ℕ) (a b : Operation) → IsOperation a → IsOperation b
      → slice_cmp nat_cmp (record_bytes a) (record_bytes b) ≡ Less → test (slice_cmp nat_cmp (prefix_of scope b) w)
      ≡ true → test (slice_cmp nat_cmp (prefix_of scope a) w) ≡ true
  rises scope w a b is_a is_b h g =
      passes (prefix_of scope a) (prefix_of scope b) w _ _ refl refl (slice_cmp nat_cmp (behind scope a) (behind scope b))
      (sym (slice_cmp-append (prefix_of scope a) (prefix_of scope b) (behind scope a) (behind scope b)
      (length_front scope a is_a ∙ sym (length_front scope b is_b)))
      ∙ (λ i. slice_cmp nat_cmp (sym (record_parts scope a) i) (sym (record_parts scope b) i)) ∙ h)
      g

  -- so the test of how their records begin parts operations that ascend
  pub parted : (scope : Scope) (w : List ℕ) (xs : List Operation)
      → IsStrictlySortedBy (slice_cmp nat_cmp) (map record_bytes xs) → AllByRecursion IsOperation xs
      → IsPartitionedBy (λ a. test (slice_cmp nat_cmp (prefix_of scope a) w)) xs
  parted scope w xs up known i j d le lt t = elim (cases_lt i j) [
    | inl before ↦
        let records = Less-from_sorted (slice_cmp nat_cmp) (map record_bytes xs) i j (record_bytes d) up before (rw (length-map xs record_bytes) lt) in
        rises scope w (get_or xs i d) (get_or xs j d) (All-from_recursion IsOperation xs known i d (omega arith))
        (All-from_recursion IsOperation xs known j d lt)
        (rw (get_or-map record_bytes xs i d (record_bytes d) (omega arith), get_or-map record_bytes xs j d (record_bytes d) lt) at records) t
    | inr same ↦ let e : i ≡ j = omega arith in rw e t
  ]

gt_of_le : (r : Ordering) (b : Bool) → is_gt r ≡ true → (b ≡ true → is_le r ≡ true) → b ≡ false
gt_of_le r b h f = grind arith

lt_of_le : (r : Ordering) → is_le r ≡ false → is_lt r ≡ false
lt_of_le r h = grind arith

module _ (kind : RecordKind) (scope : Scope) (xs : List Operation)
    (up : IsStrictlySortedBy (slice_cmp nat_cmp) (map record_bytes xs)) (are : AllByRecursion IsOperation xs) (i : ℕ)
    (within : i ≤ length xs) where
  -- where one operation is below those of a kind within a scope, those before it are
  pub below_place : (x : Operation) → 0 < i → x ≡ get_or xs (i - 1) x → is_lt (slice_cmp nat_cmp (prefix_of scope x) (scope_prefix kind scope)) ≡ true
      → AllWithin (λ a. is_lt (slice_cmp nat_cmp (prefix_of scope a) (scope_prefix kind scope)) ≡ true) xs 0 i
  below_place x some is lt k d low high =
      let before = λ (a : Operation). is_lt (slice_cmp nat_cmp (prefix_of scope a) (scope_prefix kind scope)) in
      parted is_lt refl refl scope (scope_prefix kind scope) xs up are k (i - 1) d (omega arith) (omega arith)
      (ap before (get_or_default xs (i - 1) d x (omega arith) ∙ sym is) ∙ lt)

  -- and where one is above them, those after it are
  pub above_place : (x : Operation) → i < length xs → x ≡ get_or xs i x → is_gt (slice_cmp nat_cmp (prefix_of scope x) (scope_prefix kind scope)) ≡ true
      → AllWithin (λ a. is_le (slice_cmp nat_cmp (prefix_of scope a) (scope_prefix kind scope)) ≡ false) xs i (length xs)
  above_place x some is gt k d low high =
      let upto = λ (a : Operation). is_le (slice_cmp nat_cmp (prefix_of scope a) (scope_prefix kind scope)) in
      let first : get_or xs i d ≡ x = get_or_default xs i d x some ∙ sym is in
      gt_of_le _ (upto (get_or xs k d)) gt (λ t. ap upto (sym first) ∙ parted is_le refl refl scope (scope_prefix kind scope) xs up are i k d low high t)

  -- so none of them is there
  pub none_at : AllWithin (λ a. is_lt (slice_cmp nat_cmp (prefix_of scope a) (scope_prefix kind scope)) ≡ true) xs 0 i
      → AllWithin (λ a. is_le (slice_cmp nat_cmp (prefix_of scope a) (scope_prefix kind scope)) ≡ false) xs i
      (length xs) → filter (is_within kind scope) xs ≡ []
  none_at below above =
      sym (middle (λ a. slice_cmp nat_cmp (prefix_of scope a) (scope_prefix kind scope)) xs i 0
      below (λ k d low high. lt_of_le _ (above k d low high)) (λ k d low high. absurd (omega arith))
      (λ k d low high. rw (get_or-drop i xs k d) (above (i + k) d (omega arith) (omega (arith, length-drop i xs)))))

-- a text ties with itself
itself : (x : List ℕ) → is_eq (slice_cmp nat_cmp x x) ≡ true
itself x = ap is_eq (tied_itself nat_list_cmp_total x)

-- where no retirement stands under a key, no slice of the key is retired
pub none_retired : (operations : List Operation) (key : SliceKey) (slice : List ℕ) → IsHeld operations → IsKey key
    → filter (is_under_key Retirement key) operations ≡ []
    → contains (from_list {R = slice_cmp nat_cmp} (map record_bytes operations)) (retirement_record key (sha256 slice)) ≡ false
none_retired operations key slice held is_key none = false_from_ne_true _ (λ h.
    let one : Operation = Retire key (record { 0 = sha256 slice }) in
    let there = operation_there operations one held.are (is_key, length-sha256 slice) h in
    let nowhere = rw none at (to_filter (is_under_key Retirement key) operations one there (itself (scope_prefix Retirement (OfKey key)))) in
    absurd (omega (arith, nowhere.1)))

-- what is live under a key is admitted under it
under_of_live : (key : SliceKey) (dsym : Bool) (slice : List ℕ) → is_held_kind key dsym slice ≡ true → is_under_key Admission key (Admit slice) ≡ true
unfolding is_held_kind
under_of_live key dsym slice h =
    let same : key_of slice ≡ key = one_key (key_of slice) key (both (is_key (key_of slice) key) _ h).0 in
    ap (λ k. is_eq (slice_cmp nat_cmp (scope_prefix Admission (OfKey k)) (scope_prefix Admission (OfKey key)))) same
    ∙ itself (scope_prefix Admission (OfKey key))

-- so the live slices of a key are among the admissions under it
pub live_under : (key : SliceKey) (dsym : Bool) (xs : List Operation) → held_among key dsym (filter (is_under_key Admission key) xs) ≡ held_among key dsym xs
unfolding held_among
live_under key dsym [] = refl
live_under key dsym (x ∷ xs) = by (is_under_key Admission key x) refl (live_under key dsym xs)
  where
    none_outside : (a : Operation) → is_under_key Admission key a ≡ false → held_in key dsym a ≡ None
    none_outside (Admit slice) h = rw (false_from_ne_true (is_held_kind key dsym slice) (λ t. cc (sym (under_of_live key dsym slice t) ∙ h))) refl
    none_outside (Retire other digest) h = refl

    by : (b : Bool) → is_under_key Admission key x ≡ b → held_among key dsym (filter (is_under_key Admission key) xs) ≡ held_among key dsym xs
        → held_among key dsym (cond b (x ∷ filter (is_under_key Admission key) xs) (filter (is_under_key Admission key) xs)) ≡ held_among key dsym (x ∷ xs)
    by true h rest = ap (cons_option (held_in key dsym x)) rest
    by false h rest = rw (none_outside x h) rest

-- what stands after one tag ties just where it is the same
same_test : (t : ℕ) (a b : List ℕ) → is_eq (slice_cmp nat_cmp (t ∷ a) (t ∷ b)) ≡ bytes_eq a b
same_test t a b = both_ways _ _
    (λ h. (bytes_eq-Decides a b).1 (ap (drop 1) (bytes_same (t ∷ a) (t ∷ b) ((Equal-is (slice_cmp nat_cmp (t ∷ a) (t ∷ b))).0 h))))
    (λ h. ap (λ u. is_eq (slice_cmp nat_cmp (t ∷ u) (t ∷ b))) ((bytes_eq-Decides a b).0 h) ∙ itself (t ∷ b))

-- one more in front of the first run
in_front : (b c : Bool) (x : Operation) (xs ys told : List Operation) → b ≡ c → xs ++ ys ≡ told → cond b (x ∷ xs) xs ++ ys ≡ cond c (x ∷ told) told
in_front b c x xs ys told same h = grind arith

-- no retirement stands after an admission
none_behind : (uuid slice : List ℕ) (xs : List Operation)
    → AllByRecursion (λ r. slice_cmp nat_cmp (admission_record slice) r ≡ Less) (map record_bytes xs)
    → filter (is_under_uuid Retirement uuid) xs ≡ []
none_behind uuid slice [] up = refl
none_behind uuid slice (Admit other ∷ xs) up = none_behind uuid slice xs up.1
none_behind uuid slice (Retire key digest ∷ xs) up = cc

-- so what a search tells stands in two runs: the retirements under the UUID, and the admissions
pub two_runs : (uuid : List ℕ) (xs : List Operation) → IsStrictlySortedBy (slice_cmp nat_cmp) (map record_bytes xs)
    → filter (is_under_uuid Retirement uuid) xs ++ filter (is_under_uuid Admission uuid) xs ≡ filter (is_found_under uuid) xs
unfolding IsStrictlySortedBy
two_runs uuid [] up = refl
two_runs uuid (Retire key digest ∷ xs) up =
    in_front (is_under_uuid Retirement uuid (Retire key digest)) (bytes_eq key.uuid uuid) (Retire key digest)
    (filter (is_under_uuid Retirement uuid) xs) (filter (is_under_uuid Admission uuid) xs)
    (filter (is_found_under uuid) xs)
    (same_test 1 key.uuid uuid) (two_runs uuid xs up.1)
two_runs uuid (Admit slice ∷ xs) up =
    let admissions = filter (is_under_uuid Admission uuid) in
    let none = none_behind uuid slice xs up.0 in
    let rest : admissions xs ≡ filter (is_found_under uuid) xs = sym (ap (λ l. l ++ admissions xs) none) ∙ two_runs uuid xs up.1 in
    ap (λ l. l ++ admissions (Admit slice ∷ xs)) none
    ∙ sym (append-nil (admissions (Admit slice ∷ xs)))
    ∙ in_front (is_under_uuid Admission uuid (Admit slice)) (bytes_eq (key_of slice).uuid uuid) (Admit slice)
    (admissions xs) [] (filter (is_found_under uuid) xs)
    (same_test 2 (key_of slice).uuid uuid) (append-nil (admissions xs) ∙ rest)
