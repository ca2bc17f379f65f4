-- Entries with numbers, among all entries.
use Rattle.std.proofs.Common.{◌≡◌, ℕ, zero, suc, ◌+◌, ◌-◌, ◌<◌, ◌≤◌, Bool, false, cond, eqb, nat_lt, List, [], ◌∷◌, ◌++◌}
use Rattle.std.proofs.Common.{length, get_or, refl, sym, ap, ◌∙◌, subst, arith, length-append}
use Rattle.std.specs.List.{AllByRecursion, range_with_len}
use Rattle.std.specs.List.Sorted.{IsStrictlyIncreasing, IsStrictlySortedBy}
use Rattle.std.proofs.lemmas.Bool.{eqb-true}
use Rattle.std.proofs.lemmas.Bool.Decides.{nat_tests}
use Rattle.std.proofs.lemmas.List.{get_or_append_left, get_or-append_right}
use Rattle.std.proofs.lemmas.List.Elements.{recursion_from_All}
use Rattle.std.proofs.lemmas.List.FromFn.{get_or-range_with_len, length-range_with_len}
use Rattle.std.proofs.lemmas.Map.Keys.{IsStrictlyIncreasing-from_sorted, sorted_from_strictly_increasing}
use Rattle.archive_core.proofs.Made.{by_test}
use Rattle.index_format.specs.Spread.{AreNumbers, entry_with}

pub other : (n k : ℕ) → (n ≡ k → ⊥) → eqb n k ≡ false
other n k not = by_test _ (eqb n k) (λ yes. absurd (not (eqb-true n k yes))) (λ no. no)

-- past all numbers there is no entry
pub entry_past : (next : ℕ) (ns : List ℕ) (es : List (List ℕ)) (k : ℕ) → AllByRecursion (λ n. n < next) ns → next ≤ k → entry_with ns es k ≡ []
entry_past next [] es k below le = refl
entry_past next (n ∷ ns) [] k below le = refl
entry_past next (n ∷ ns) (e ∷ es) k below le =
    ap (λ (b : Bool). cond b e (entry_with ns es k)) (other n k (λ h. omega (arith, h, below.0, le)))
    ∙ entry_past next ns es k below.1 le

-- nor outside a row of numbers
range_out : (start m : ℕ) (ys : List (List ℕ)) (k : ℕ) → (start ≤ k → k < start + m → ⊥) → entry_with (range_with_len start m) ys k ≡ []
range_out start zero ys k out = refl
range_out start (suc m) [] k out = refl
range_out start (suc m) (y ∷ ys) k out =
    ap (λ (b : Bool). cond b y (entry_with (range_with_len (start + 1) m) ys k)) (other start k (λ h. out (omega (arith, h)) (omega (arith, h))))
    ∙ range_out (start + 1) m ys k (λ low lt. out (omega (arith, low)) (omega (arith, lt)))

range_in : (start m : ℕ) (ys : List (List ℕ)) (k : ℕ) → length ys ≡ m → start ≤ k → k < start + m
    → entry_with (range_with_len start m) ys k ≡ get_or ys (k - start) []
range_in start zero ys k long low lt = absurd (omega (arith, low, lt))
range_in start (suc m) [] k long low lt = absurd (omega (arith, long))
range_in start (suc m) (y ∷ ys) k long low lt = by_test _ (eqb start k)
    (λ yes.
    let none : 0 ≡ k - start = omega (arith, eqb-true start k yes) in
    ap (λ (b : Bool). cond b y (entry_with (range_with_len (start + 1) m) ys k)) yes ∙ ap (λ (i : ℕ). get_or (y ∷ ys) i []) none)
    (λ no.
    let more : start + 1 ≤ k = by_test _ (nat_lt start k)
    (λ lower. let up : start < k = grind (arith, nat_tests) in omega (arith, up))
    (λ same. let is : start ≡ k = grind (arith, nat_tests) in absurd (apart start k no is)) in
    let next : suc (k - (start + 1)) ≡ k - start = omega (arith, more) in
    ap (λ (b : Bool). cond b y (entry_with (range_with_len (start + 1) m) ys k)) no
    ∙ range_in (start + 1) m ys k (omega (arith, long)) more (omega (arith, lt))
    ∙ ap (λ (i : ℕ). get_or (y ∷ ys) i []) next)
  where
    apart : (a b : ℕ) → eqb a b ≡ false → a ≡ b → ⊥
    apart a b differ is = grind (arith, nat_tests)

-- entries that are appended
append_out : (ns ms : List ℕ) (es ys : List (List ℕ)) (k : ℕ) → length ns ≡ length es → entry_with ms ys k ≡ []
    → entry_with (ns ++ ms) (es ++ ys) k ≡ entry_with ns es k
append_out [] ms [] ys k long none = none
append_out [] ms (e ∷ es) ys k long none = absurd (omega (arith, long))
append_out (n ∷ ns) ms [] ys k long none = absurd (omega (arith, long))
append_out (n ∷ ns) ms (e ∷ es) ys k long none =
    ap (λ (t : List ℕ). cond (eqb n k) e t) (append_out ns ms es ys k (omega (arith, long)) none)

append_in : (next : ℕ) (ns ms : List ℕ) (es ys : List (List ℕ)) (k : ℕ) → length ns ≡ length es → AllByRecursion (λ n. n < next) ns
    → next ≤ k → entry_with (ns ++ ms) (es ++ ys) k ≡ entry_with ms ys k
append_in next [] ms [] ys k long below le = refl
append_in next [] ms (e ∷ es) ys k long below le = absurd (omega (arith, long))
append_in next (n ∷ ns) ms [] ys k long below le = absurd (omega (arith, long))
append_in next (n ∷ ns) ms (e ∷ es) ys k long below le =
    ap (λ (b : Bool). cond b e (entry_with (ns ++ ms) (es ++ ys) k)) (other n k (λ h. omega (arith, h, below.0, le)))
    ∙ append_in next ns ms es ys k (omega (arith, long)) below.1 le

module _ (start m : ℕ) (ns : List ℕ) (es ys : List (List ℕ)) (k : ℕ) (long : length ns ≡ length es) where
  -- outside a row that is appended, the entries are as before
  pub run_out : (start ≤ k → k < start + m → ⊥) → entry_with (ns ++ range_with_len start m) (es ++ ys) k ≡ entry_with ns es k
  run_out out = append_out ns (range_with_len start m) es ys k long (range_out start m ys k out)

  -- and in it they are those that are appended
  pub run_in : AreNumbers start ns → length ys ≡ m → start ≤ k → k < start + m
      → entry_with (ns ++ range_with_len start m) (es ++ ys) k ≡ get_or ys (k - start) []
  run_in below count low lt = append_in start ns (range_with_len start m) es ys k long
      (recursion_from_All (λ (n : ℕ). n < start) ns below.below) low ∙ range_in start m ys k count low lt

-- ---- their numbers

pub numbers_up : (a b : ℕ) (ns : List ℕ) → a ≤ b → AreNumbers a ns → AreNumbers b ns
numbers_up a b ns le h = record { ascending = h.ascending; below = λ k d lt. omega (arith, h.below k d lt, le) }

pub numbers_more : (start m : ℕ) (ns : List ℕ) → AreNumbers start ns → AreNumbers (start + m) (ns ++ range_with_len start m)
numbers_more start m ns h =
    let row = range_with_len start m in
    let count : length row ≡ m = length-range_with_len start m in
    let all : length (ns ++ row) ≡ length ns + length row = length-append ns row in
    let rise : IsStrictlyIncreasing ns = IsStrictlyIncreasing-from_sorted ns h.ascending in
    let in_row : (i d : ℕ) → length ns ≤ i → i < length (ns ++ row) → get_or (ns ++ row) i d ≡ start + (i - length ns) =
    λ i d low lt. get_or-append_right ns row (length ns) i d refl low
    ∙ get_or-range_with_len start m (i - length ns) d (omega (arith, low, lt, all, count)) in
    let below_row : (i d : ℕ) → i < length ns → get_or (ns ++ row) i d < start =
    λ i d lt. subst (λ (n : ℕ). n < start) (sym (get_or_append_left ns row d i lt)) (h.below i d lt) in
    let up : IsStrictlyIncreasing (ns ++ row) = λ i lt. by_test _ (nat_lt (i + 1) (length ns))
    (λ yes.
    let inside : i + 1 < length ns = grind (arith, nat_tests) in
    omega (arith, get_or_append_left ns row 0 i (omega (arith, inside)), get_or_append_left ns row 0 (i + 1) inside, rise i inside))
    (λ no.
    let behind : length ns ≤ i + 1 = grind (arith, nat_tests) in
    by_test _ (nat_lt i (length ns))
    (λ yes. let last : i < length ns = grind (arith, nat_tests) in omega (arith, below_row i 0 last, in_row (i + 1) 0 behind lt))
    (λ both.
    let past : length ns ≤ i = grind (arith, nat_tests) in
    omega (arith, in_row i 0 past (omega (arith, lt)), in_row (i + 1) 0 behind lt, past))) in
    record {
      ascending = sorted_from_strictly_increasing (ns ++ row) up;
      below = λ i d lt. by_test _ (nat_lt i (length ns))
          (λ yes. let inside : i < length ns = grind (arith, nat_tests) in omega (arith, below_row i d inside))
          (λ no. let past : length ns ≤ i = grind (arith, nat_tests) in omega (arith, in_row i d past lt, lt, all, count, past));
    }

pub numbers_none : (n : ℕ) → AreNumbers n []
unfolding IsStrictlySortedBy
numbers_none n = record { ascending = tt; below = λ k d lt. absurd (omega (arith, lt)) }
