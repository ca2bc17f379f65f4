-- Which live slices a plain archive finds, and which of them answer.
use Rattle.std.proofs.Common.{◌≡◌, ℕ, ◌+◌, ◌<◌, Bool, true, false, ◌&&◌, not, cond, List, [], ◌∷◌, ◌++◌, map, length}
use Rattle.std.proofs.Common.{take, slice_index_or, Option, Some, None, refl, sym, ap, ◌∙◌, inl, inr, arith, subst}
use Rattle.std.specs.declared.cmp.Ordering.TheVariants.{Less}
use Rattle.std.specs.Ordering.{nat_cmp, on}
use Rattle.std.specs.Cmp.Lexicographic.{slice_cmp}
use Rattle.std.specs.List.{AllByRecursion, Contains, AllZip, cons_option}
use Rattle.std.specs.List.Sorted.{IsStrictlySortedBy}
use Rattle.std.specs.FinSet.{from_list, contains}
use Rattle.std.proofs.lemmas.Bool.{false_from_ne_true}
use Rattle.std.proofs.lemmas.List.Elements.{filter_map-append, All-contains, All-from_recursion}
use Rattle.std.proofs.lemmas.List.{append-nil, map-append}
use Rattle.macho_image.specs.Contents.{is_dsym_image}
use Rattle.archive_core.specs.Key.{IsKey}
use Rattle.archive_core.specs.Valid.{key_of, IsValid}
use Rattle.archive_core.specs.Record.{record_bytes, admission_record, IsOperation}
use Rattle.archive_core.specs.Content.{Operations, IsContent, IsLive}
use Rattle.archive_core.specs.InnerHeld.{IsHeld}
use Rattle.archive_core.specs.Find.{AreAnswering, is_key, is_kind}
use Rattle.archive_index.specs.InnerScan.{is_held_kind, held_in, held_among, IsAnsweringOf}
use Rattle.archive_core.specs.Lookup.{IsOwnRow, own_row}
use Rattle.archive_core.specs.declared.keys.Digest.{Digest}
use Rattle.archive_core.specs.declared.keys.SliceKey.{SliceKey}
use Rattle.archive_core.specs.declared.lookup.Where.{Where}
use Rattle.archive_index.specs.declared.asked.Answering.{Answering}
use Rattle.archive_index.specs.declared.asked.Answering.TheVariants.{Nothing, One, Several}
use Rattle.archive_core.specs.declared.lookup.Own.{Own}
use Rattle.archive_core.specs.declared.operations.Operation.{Operation}
use Rattle.archive_core.specs.declared.operations.Operation.TheVariants.{Admit, Retire}
use Rattle.archive_index.proofs.Held.{content_of_held}
use Rattle.archive_index.proofs.Scanned.{take_one_more}
use Rattle.archive_core.proofs.Words.{live_in_content}
use Rattle.archive_core.proofs.Members.{in_cons, in_front, in_rest, ascending_by, pairs_more}
use Rattle.archive_core.proofs.Told.{record_there, operation_there}
use Rattle.archive_core.proofs.Answering.{both, live_is_valid, one_key, is_key_of}

-- the live slices among the first operations, and what one more brings
module _ (key : SliceKey) (dsym : Bool) (operations : List Operation) (i : ℕ) (a : Operation)
    (lt : i < length operations) (is : a ≡ slice_index_or operations i a) where
  more : held_among key dsym (take (i + 1) operations) ≡ held_among key dsym (take i operations) ++ cons_option (held_in key dsym a) []
  unfolding held_among
  more = ap (held_among key dsym) (take_one_more operations i a lt is) ∙ filter_map-append (held_in key dsym) (take i operations) (a ∷ [])

  pub one_more : (found : Option (List ℕ)) (slice : List ℕ) → found ≡ held_in key dsym a → found ≡ Some slice
      → held_among key dsym (take (i + 1) operations) ≡ held_among key dsym (take i operations) ++ slice ∷ []
  one_more found slice live some = rw (more, ← live, some) refl

  pub none_more : (found : Option (List ℕ)) → found ≡ held_in key dsym a → found ≡ None
      → held_among key dsym (take (i + 1) operations) ≡ held_among key dsym (take i operations)
  none_more found live none = rw (more, ← live, none) (append-nil (held_among key dsym (take i operations)))

-- what passes the test is live where it is held, and of the kind
live_by_test : (o : Operations) (key : SliceKey) (dsym : Bool) (slice : List ℕ) → IsContent o → IsValid slice
    → contains o (admission_record slice) ≡ true → is_held_kind key dsym slice ≡ true → IsLive o key slice
    × (is_kind dsym slice ≡ true)
unfolding is_held_kind
live_by_test o key dsym slice content valid there h =
    let parts = both (is_key (key_of slice) key) (is_kind dsym slice) h in
    (subst (λ k. IsLive o k slice) (one_key (key_of slice) key parts.0) (live_in_content o slice content valid there), parts.1)

test_of_live : (o : Operations) (key : SliceKey) (dsym : Bool) (slice : List ℕ) → IsLive o key slice
    → is_kind dsym slice ≡ true → is_held_kind key dsym slice ≡ true
unfolding is_held_kind
test_of_live o key dsym slice live kind = λ i. is_key_of (key_of slice) key live.under i && kind i

-- what is found was admitted and passes the test
in_live : (key : SliceKey) (dsym : Bool) (xs : List Operation) (slice : List ℕ)
    → Contains (held_among key dsym xs) slice → Contains xs (Admit slice) × (is_held_kind key dsym slice ≡ true)
unfolding held_among
in_live key dsym [] slice (k, lt, e) = absurd (omega arith)
in_live key dsym (Admit first ∷ xs) slice h =
    at (is_held_kind key dsym first) refl h (λ there. let found = in_live key dsym xs slice there in (in_rest (Admit first) xs (Admit slice) found.0, found.1))
  where
    at : (b : Bool) → is_held_kind key dsym first ≡ b → Contains (cons_option (cond b (Some first) None) (held_among key dsym xs)) slice
        → (Contains (held_among key dsym xs) slice → Contains (Admit first ∷ xs) (Admit slice) × (is_held_kind key dsym slice ≡ true))
        → Contains (Admit first ∷ xs) (Admit slice) × (is_held_kind key dsym slice ≡ true)
    at true t g rest = elim (in_cons first (held_among key dsym xs) slice g) [
      | inl e ↦ rw (← e) (in_front (Admit first) xs, t)
      | inr there ↦ rest there
    ]
    at false t g rest = rest g
in_live key dsym (Retire other digest ∷ xs) slice h = let found = in_live key dsym xs slice h
    in (in_rest (Retire other digest) xs (Admit slice) found.0, found.1)

-- and all of these are found
to_live : (key : SliceKey) (dsym : Bool) (xs : List Operation) (slice : List ℕ) → Contains xs (Admit slice)
    → is_held_kind key dsym slice ≡ true → Contains (held_among key dsym xs) slice
unfolding held_among
to_live key dsym [] slice (k, lt, e) t = absurd (omega arith)
to_live key dsym (Admit first ∷ xs) slice h t = elim (in_cons (Admit first) xs (Admit slice) h) [
  | inl e ↦ let same : first ≡ slice = cc in rw (same, t) (in_front slice (held_among key dsym xs))
  | inr there ↦ behind (is_held_kind key dsym first) (to_live key dsym xs slice there t)
]
  where
    behind : (b : Bool) → Contains (held_among key dsym xs) slice → Contains (cons_option (cond b (Some first) None) (held_among key dsym xs)) slice
    behind true i = in_rest first (held_among key dsym xs) slice i
    behind false i = i
to_live key dsym (Retire other digest ∷ xs) slice h t = elim (in_cons (Retire other digest) xs (Admit slice) h) [
  | inl e ↦ cc
  | inr there ↦ to_live key dsym xs slice there t
]

-- what is found ascends by its records
ascending_live : (key : SliceKey) (dsym : Bool) (xs : List Operation)
    → IsStrictlySortedBy (on record_bytes (slice_cmp nat_cmp)) xs
    → IsStrictlySortedBy (on admission_record (slice_cmp nat_cmp)) (held_among key dsym xs)
unfolding held_among IsStrictlySortedBy
ascending_live key dsym [] up = tt
ascending_live key dsym (Admit first ∷ xs) up = at (is_held_kind key dsym first) (ascending_live key dsym xs up.1)
  where
    below : (b : Bool) (s : List ℕ) (ss : List (List ℕ))
        → slice_cmp nat_cmp (admission_record first) (admission_record s) ≡ Less
        → AllByRecursion (λ s. slice_cmp nat_cmp (admission_record first) (admission_record s) ≡ Less) ss
        → AllByRecursion (λ s. slice_cmp nat_cmp (admission_record first) (admission_record s) ≡ Less) (cons_option (cond b (Some s) None) ss)
    below true s ss one rest = (one, rest)
    below false s ss one rest = rest

    each : (ys : List Operation) → AllByRecursion (λ y. slice_cmp nat_cmp (admission_record first) (record_bytes y)
        ≡ Less) ys → AllByRecursion (λ s. slice_cmp nat_cmp (admission_record first) (admission_record s) ≡ Less)
        (held_among key dsym ys)
    each [] g = tt
    each (Admit s ∷ ys) g = below (is_held_kind key dsym s) s (held_among key dsym ys) g.0 (each ys g.1)
    each (Retire other digest ∷ ys) g = each ys g.1

    at : (b : Bool) → IsStrictlySortedBy (on admission_record (slice_cmp nat_cmp)) (held_among key dsym xs)
        → IsStrictlySortedBy (on admission_record (slice_cmp nat_cmp))
        (cons_option (cond b (Some first) None) (held_among key dsym xs))
    at true rest = (each xs up.0, rest)
    at false rest = rest
ascending_live key dsym (Retire other digest ∷ xs) up = ascending_live key dsym xs up.1

module _ (o : Operations) (key : SliceKey) (operations : List Operation) (held : IsHeld operations)
    (content_is : from_list (map record_bytes operations) ≡ o) (is_key : IsKey key) where
  content : IsContent o
  content = subst IsContent content_is (content_of_held operations held)

  live_of : (dsym : Bool) (slice : List ℕ) → Contains (held_among key dsym operations) slice → IsLive o key slice × (is_kind dsym slice ≡ true)
  live_of dsym slice h =
      let found = in_live key dsym operations slice h in
      live_by_test o key dsym slice content (All-contains IsOperation operations (Admit slice)
      (All-from_recursion IsOperation operations held.are) found.0)
      (ap (λ s. contains s (admission_record slice)) (sym content_is)
      ∙ record_there operations (Admit slice) found.0) found.1

  of_live : (dsym : Bool) (slice : List ℕ) → IsLive o key slice → is_kind dsym slice ≡ true → Contains (held_among key dsym operations) slice
  of_live dsym slice live kind =
      let there = operation_there operations (Admit slice) held.are (live_is_valid o key slice content is_key live)
      (ap (λ s. contains s (admission_record slice)) content_is ∙ live.admitted) in
      to_live key dsym operations slice there (test_of_live o key dsym slice live kind)

  ascending : (dsym : Bool) → IsStrictlySortedBy (on admission_record (slice_cmp nat_cmp)) (held_among key dsym operations)
  ascending dsym = ascending_live key dsym operations (ascending_by (slice_cmp nat_cmp) record_bytes operations held.ascending)

  -- companions, where there are some, answer
  pub companions_answer : (held_among key true operations ≡ [] → ⊥) → AreAnswering o key (held_among key true operations)
  companions_answer some = record {
    ascending = ascending true;
    exactly = λ slice. (
      λ h. let found = live_of true slice h in record { live = found.0; companions_first = λ companion live t. found.1 },
      λ h.
          let one = some_there (held_among key true operations) some in
          let found = live_of true one.0 one.1 in
          of_live true slice h.live (h.companions_first one.0 found.0 found.1),
    );
  }
    where
      some_there : (xs : List (List ℕ)) → (xs ≡ [] → ⊥) → (x : List ℕ) × Contains xs x
      some_there [] h = absurd (h refl)
      some_there (x ∷ xs) h = (x, in_front x xs)

  -- where there are none, the other live slices do
  pub images_answer : held_among key true operations ≡ [] → AreAnswering o key (held_among key false operations)
  images_answer none = record {
    ascending = ascending false;
    exactly = λ slice. (
      λ h. record { live = (live_of false slice h).0; companions_first = λ companion live t. absurd (no_companion companion live t) },
      λ h. of_live false slice h.live (ap not (false_from_ne_true (is_dsym_image slice) (no_companion slice h.live))),
    );
  }
    where
      no_companion : (companion : List ℕ) → IsLive o key companion → is_dsym_image companion ≡ true → ⊥
      no_companion companion live t = let nowhere = rw none at (of_live true companion live t) in omega (arith, nowhere.1)

-- the rows of slices and of one slice more
pub rows_more : (asked : Where) (slices : List (List ℕ)) (old new : List (Digest × Own)) (slice : List ℕ) (row : Digest × Own)
    → AllZip (IsOwnRow asked) slices (map own_row old) → IsOwnRow asked slice (own_row row) → new ≡ old ++ row ∷ []
    → AllZip (IsOwnRow asked) (slices ++ slice ∷ []) (map own_row new)
rows_more asked slices old new slice row all one is =
    rw (is, map-append own_row old (row ∷ [])) (pairs_more (IsOwnRow asked) slices (map own_row old) slice (own_row row) all one)

-- where not nothing is kept of slices, there are some
pub some_of_answering : (answering : Answering) (slices : List (List ℕ)) → IsAnsweringOf answering slices → (answering ≡ Nothing → ⊥) → slices ≡ [] → ⊥
some_of_answering Nothing slices h some none = some refl
some_of_answering (One slice) slices h some none = cc
some_of_answering Several slices h some none = let empty : length slices ≡ 0 = ap length none in omega arith
