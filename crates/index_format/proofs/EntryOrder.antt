-- Entries of one tag under a prefix stand together, and the retirements before the admissions.
use Rattle.std.proofs.Common.{◌≡◌, ℕ, ◌+◌, ◌-◌, ◌<◌, ◌≤◌, Bool, true, false, cond, ◌&&◌, eqb, List, [], ◌∷◌, ◌++◌}
use Rattle.std.proofs.Common.{length, map, take, drop, get_or, refl, sym, ap, ◌∙◌, arith, length-drop, length-take}
use mathlib.Core.Bool.{true≢false}
use Rattle.std.specs.declared.cmp.Ordering.{Ordering}
use Rattle.std.specs.declared.cmp.Ordering.TheVariants.{Less}
use Rattle.std.specs.Ordering.{nat_cmp, ordering_then}
use Rattle.std.specs.Prelude.{filter}
use Rattle.std.specs.Cmp.Lexicographic.{slice_cmp}
use Rattle.std.specs.List.{AllByRecursion}
use Rattle.std.specs.List.Sorted.{IsStrictlySortedBy}
use Rattle.std.proofs.lemmas.Bool.{eqb-true}
use Rattle.std.proofs.lemmas.List.{get_or-drop, get_or-take}
use Rattle.std.proofs.lemmas.Map.Keys.{Less-from_sorted}
use Rattle.archive_core.specs.Part.{is_under}
use Rattle.archive_core.proofs.Made.{and_left, by_test, either}
use Rattle.index_format.specs.declared.entry.IndexEntry.{IndexEntry}
use Rattle.index_format.specs.Entry.{IsPlacedEntry, placed_bytes}
use Rattle.index_format.specs.Index.{AreIndexed}
use Rattle.index_format.proofs.Texts.{bytes_at}
use Rattle.index_format.specs.Runs.{is_tagged}

abbrev order : List ℕ → List ℕ → Ordering
order = slice_cmp nat_cmp

-- entries are long enough for a tag and a key
pub long_enough : (n : ℕ) (xs : List (List ℕ)) → n ≤ 74 → AllByRecursion IsPlacedEntry xs → AllByRecursion (λ e. n ≤ length e) xs
long_enough n [] few are = tt
long_enough n (x ∷ xs) few are = (omega (arith, few, are.0.long), long_enough n xs few are.1)

-- an entry of a run, among all
pub in_run : (xs : List IndexEntry) (start stop i : ℕ) (e : IndexEntry)
    → i < length (take (stop - start) (drop start xs)) → e ≡ get_or (take (stop - start) (drop start xs)) i e
    → (start + i < stop) × (start + i < length xs) × (e ≡ get_or xs (start + i) e)
    × (placed_bytes e ≡ get_or (map placed_bytes xs) (start + i) [])
in_run xs start stop i e lt is =
    let long = length-take (stop - start) (drop start xs) in
    let all = length-drop start xs in
    let within : i < stop - start = omega (arith, long, lt) in
    let at = is ∙ get_or-take (stop - start) (drop start xs) i e within ∙ get_or-drop start xs i e in
    let below : start + i < length xs = omega (arith, long, all, lt) in
    (omega (arith, within), below, at, bytes_at xs (start + i) e (placed_bytes e) below at refl)

-- ---- retirements before admissions

-- what stands after an admission is no retirement
pub not_before : (x y : List ℕ) → get_or x 0 0 ≡ 2 → order x y ≡ Less → eqb (get_or y 0 0) 1 ≡ false
not_before [] y e h = absurd (omega (arith, e))
not_before (a ∷ xs) [] e h = refl
not_before (a ∷ xs) (b ∷ ys) e h = by_test _ (eqb b 1)
    (λ yes.
    let up : ordering_then (nat_cmp 2 1) (order xs ys) ≡ Less = sym (λ i. ordering_then (nat_cmp (e i) (eqb-true b 1 yes i)) (order xs ys)) ∙ h in
    absurd cc)
    (λ no. no)

module _ (prefix : List ℕ) where
  none_behind : (x : List ℕ) (xs : List (List ℕ)) → get_or x 0 0 ≡ 2 → AllByRecursion (λ y. order x y ≡ Less) xs → filter (is_tagged 1 prefix) xs ≡ []
  none_behind x [] e up = refl
  none_behind x (y ∷ ys) e up = rw (ap (λ (b : Bool). b && is_under prefix y) (not_before x y e up.0)) (none_behind x ys e up.1)

  first_one : (p q u : Bool) (x : List ℕ) (xs ys all : List (List ℕ)) → p ≡ true → q ≡ false → xs ++ ys ≡ all
      → cond (p && u) (x ∷ xs) xs ++ cond (q && u) (x ∷ ys) ys ≡ cond u (x ∷ all) all
  first_one p q u x xs ys all e f h = grind arith

  second_one : (p q u : Bool) (x : List ℕ) (xs ys all : List (List ℕ)) → p ≡ false → q ≡ true → xs ≡ [] → xs ++ ys ≡ all
      → cond (p && u) (x ∷ xs) xs ++ cond (q && u) (x ∷ ys) ys ≡ cond u (x ∷ all) all
  second_one p q u x xs ys all e f none h = grind arith

  -- so the entries under a prefix are the retirements there, and after them the admissions
  pub two_runs : (xs : List (List ℕ)) → IsStrictlySortedBy order xs → AllByRecursion IsPlacedEntry xs
      → filter (is_tagged 1 prefix) xs ++ filter (is_tagged 2 prefix) xs ≡ filter (is_under prefix) xs
  unfolding IsStrictlySortedBy
  two_runs [] up are = refl
  two_runs (x ∷ xs) up are =
      let t = get_or x 0 0 in
      let rest = two_runs xs up.1 are.1 in
      either _ (eqb t 1) (eqb t 2)
      (λ one.
      let other : eqb t 2 ≡ false = ap (λ (n : ℕ). eqb n 2) (eqb-true t 1 one) in
      first_one (eqb t 1) (eqb t 2) (is_under prefix x) x (filter (is_tagged 1 prefix) xs)
      (filter (is_tagged 2 prefix) xs) (filter (is_under prefix) xs) one other rest)
      (λ two.
      let is : t ≡ 2 = eqb-true t 2 two in
      let other : eqb t 1 ≡ false = ap (λ (n : ℕ). eqb n 1) is in
      second_one (eqb t 1) (eqb t 2) (is_under prefix x) x (filter (is_tagged 1 prefix) xs)
      (filter (is_tagged 2 prefix) xs) (filter (is_under prefix) xs) other two (none_behind x xs is up.0) rest)
      are.0.tag

  -- an entry under a prefix is a retirement or an admission there
  pub one_of_two : (P : Type 0) (e : List ℕ) → IsPlacedEntry e → is_under prefix e ≡ true
      → (is_tagged 1 prefix e ≡ true → P) → (is_tagged 2 prefix e ≡ true → P) → P
  one_of_two P e is under first second =
      either P (eqb (get_or e 0 0) 1) (eqb (get_or e 0 0) 2)
      (λ one. first (ap (λ (b : Bool). b && is_under prefix e) one ∙ under))
      (λ two. second (ap (λ (b : Bool). b && is_under prefix e) two ∙ under))
      is.tag

  -- no admission stands before a retirement
  pub not_second : (xs : List (List ℕ)) (j k : ℕ) → AreIndexed xs → j < k → k < length xs
      → is_tagged 2 prefix (get_or xs j []) ≡ true → is_tagged 1 prefix (get_or xs k []) ≡ true → ⊥
  not_second xs j k are below there two one =
      true≢false (sym (and_left _ _ one) ∙ not_before (get_or xs j []) (get_or xs k [])
      (eqb-true (get_or (get_or xs j []) 0 0) 2 (and_left _ _ two))
      (Less-from_sorted order xs j k [] are.ascending below there))
