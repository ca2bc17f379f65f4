-- A part of all entries: those that pass a test, with their numbers.
use Rattle.std.proofs.Common.{◌≡◌, ℕ, zero, suc, ◌+◌, ◌-◌, ◌<◌, ◌≤◌, Bool, true, false, ◌&&◌, cond, eqb, nat_lt, List, [], ◌∷◌}
use Rattle.std.proofs.Common.{length, map, take, drop, get_or, refl, sym, ap, ◌∙◌, subst, arith, eq-eqb}
use mathlib.Core.Bool.{true≢false}
use Rattle.std.specs.Prelude.{All, filter}
use Rattle.std.specs.Ordering.{nat_cmp}
use Rattle.std.specs.List.{AllByRecursion, AllWithin, enumerate_from, range_with_len, zip}
use Rattle.std.specs.List.Sorted.{IsStrictlySortedBy}
use Rattle.std.specs.declared.cmp.Ordering.TheVariants.{Less}
use Rattle.std.proofs.lemmas.Bool.{eqb-true}
use Rattle.std.proofs.lemmas.Bool.Decides.{nat_tests}
use Rattle.std.proofs.Math.ListN.{length-map}
use Rattle.std.proofs.lemmas.List.{drop-map, take-map}
use Rattle.std.proofs.lemmas.List.Elements.{All-drop, All-take, recursion_from_All}
use Rattle.std.proofs.lemmas.List.FromFn.{get_or-map-range_with_len, length-map-range_with_len}
use Rattle.archive_core.specs.Part.{is_under}
use Rattle.archive_core.proofs.Made.{by_test}
use Rattle.index_format.specs.Entry.{HasItsFields, entry_bytes}
use Rattle.index_format.specs.Runs.{IsRun, is_tagged}
use Rattle.index_format.specs.Spread.{AreNumbered, AreNumbers, ArePart, entry_with, spread}
use Rattle.index_format.specs.declared.entry.IndexEntry.{IndexEntry}
use Rattle.index_format.proofs.RunLemmas.{length_run}
use Rattle.index_format.proofs.SpreadLemmas.{other}

-- what agrees at each number of a row
map_row : {X : Type 0} (f g : ℕ → X) (a m : ℕ) → ((k : ℕ) → a ≤ k → f k ≡ g k) → map f (range_with_len a m) ≡ map g (range_with_len a m)
map_row f g a zero same = refl
map_row f g a (suc m) same = λ i. same a (omega arith) i ∷ map_row f g (a + 1) m (λ k le. same k (omega (arith, le))) i

less_than : (a b : ℕ) → nat_cmp a b ≡ Less → a < b
less_than a b h = grind (arith, nat_tests)

above_head : (n : ℕ) (ns : List ℕ) → AllByRecursion (λ y. nat_cmp n y ≡ Less) ns → AllByRecursion (λ y. n + 1 ≤ y) ns
above_head n [] h = tt
above_head n (y ∷ ys) h = (let lt : n < y = less_than n y h.0 in omega (arith, lt), above_head n ys h.1)

module _ (p : List ℕ → Bool) (none : p [] ≡ false) where
  abbrev passes : ℕ × List ℕ → Bool
  passes x = p x.1

  -- all numbers of a list are in a row
  abbrev InRow : ℕ → ℕ → List ℕ → Type 0
  InRow a m ns = AllByRecursion (λ n. a ≤ n) ns × AllByRecursion (λ n. n < a + m) ns × IsStrictlySortedBy nat_cmp ns

  -- among those of a row that pass are exactly those with a number
  row_passes : (m a : ℕ) (ns : List ℕ) (es : List (List ℕ)) → length ns ≡ length es → InRow a m ns
      → filter passes (enumerate_from a (map (entry_with ns es) (range_with_len a m))) ≡ filter passes (zip ns es)
  unfolding IsStrictlySortedBy
  row_passes zero a [] es long row = refl
  row_passes zero a (n ∷ ns) es long row = absurd (omega (arith, row.0.0, row.1.0))
  row_passes (suc m) a [] es long row =
      ap (λ (b : Bool). cond b ((a, []) ∷ filter passes (enumerate_from (a + 1) (map (entry_with [] es) (range_with_len (a + 1) m))))
      (filter passes (enumerate_from (a + 1) (map (entry_with [] es) (range_with_len (a + 1) m))))) none
      ∙ row_passes m (a + 1) [] es long (tt, tt, tt)
  row_passes (suc m) a (n ∷ ns) [] long row = absurd (omega (arith, long))
  row_passes (suc m) a (n ∷ ns) (e ∷ es) long row = by_test _ (eqb n a)
      (λ yes.
      let here : n ≡ a = eqb-true n a yes in
      let rest : List (List ℕ) = map (entry_with ns es) (range_with_len (a + 1) m) in
      let after : map (entry_with (n ∷ ns) (e ∷ es)) (range_with_len (a + 1) m) ≡ rest =
      map_row (entry_with (n ∷ ns) (e ∷ es)) (entry_with ns es) (a + 1) m
      (λ k le. ap (λ (b : Bool). cond b e (entry_with ns es k)) (other n k (λ h. omega (arith, h, here, le)))) in
      let tail = row_passes m (a + 1) ns es (omega (arith, long))
      (up a n ns here (above_head n ns row.2.0), within a m ns row.1.1, row.2.1) in
      (λ i. cond (p (cond (yes i) e (entry_with ns es a))) ((a, cond (yes i) e (entry_with ns es a)) ∷ filter passes (enumerate_from (a + 1) (after i)))
      (filter passes (enumerate_from (a + 1) (after i))))
      ∙ (λ i. cond (p e) ((sym here i, e) ∷ tail i) (tail i)))
      (λ no.
      let later : a < n = by_test _ (nat_lt a n) (λ up. grind (arith, nat_tests))
      (λ same. let is : n ≡ a = omega (arith, row.0.0, not_lt a n same) in absurd (apart n a no is)) in
      let empty : entry_with ns es a ≡ [] = absent a ns es (above_all a n ns later (above_head n ns row.2.0)) in
      (λ i. cond (p (cond (no i) e (entry_with ns es a)))
      ((a, cond (no i) e (entry_with ns es a)) ∷ filter passes (enumerate_from (a + 1) (map (entry_with (n ∷ ns) (e ∷ es)) (range_with_len (a + 1) m))))
      (filter passes (enumerate_from (a + 1) (map (entry_with (n ∷ ns) (e ∷ es)) (range_with_len (a + 1) m)))))
      ∙ (λ i. cond (p (empty i)) ((a, empty i) ∷ filter passes (enumerate_from (a + 1) (map (entry_with (n ∷ ns) (e ∷ es)) (range_with_len (a + 1) m))))
      (filter passes (enumerate_from (a + 1) (map (entry_with (n ∷ ns) (e ∷ es)) (range_with_len (a + 1) m)))))
      ∙ ap (λ (b : Bool). cond b ((a, []) ∷ filter passes (enumerate_from (a + 1) (map (entry_with (n ∷ ns) (e ∷ es)) (range_with_len (a + 1) m))))
      (filter passes (enumerate_from (a + 1) (map (entry_with (n ∷ ns) (e ∷ es)) (range_with_len (a + 1) m))))) none
      ∙ row_passes m (a + 1) (n ∷ ns) (e ∷ es) long
      ((omega (arith, later), above_all_le a n ns later (above_head n ns row.2.0)), within a m (n ∷ ns) row.1, row.2))
    where
      up : (a n : ℕ) (ns : List ℕ) → n ≡ a → AllByRecursion (λ y. n + 1 ≤ y) ns → AllByRecursion (λ y. a + 1 ≤ y) ns
      up a n ns here h = subst (λ (k : ℕ). AllByRecursion (λ y. k + 1 ≤ y) ns) here h

      within : (a m : ℕ) (ns : List ℕ) → AllByRecursion (λ y. y < a + suc m) ns → AllByRecursion (λ y. y < a + 1 + m) ns
      within a m [] h = tt
      within a m (y ∷ ys) h = (omega (arith, h.0), within a m ys h.1)

      not_lt : (a n : ℕ) → nat_lt a n ≡ false → n ≤ a
      not_lt a n h = grind (arith, nat_tests)

      apart : (n a : ℕ) → eqb n a ≡ false → n ≡ a → ⊥
      apart n a differ is = grind (arith, nat_tests)

      above_all : (a n : ℕ) (ns : List ℕ) → a < n → AllByRecursion (λ y. n + 1 ≤ y) ns → AllByRecursion (λ y. a < y) ns
      above_all a n [] lt h = tt
      above_all a n (y ∷ ys) lt h = (omega (arith, lt, h.0), above_all a n ys lt h.1)

      above_all_le : (a n : ℕ) (ns : List ℕ) → a < n → AllByRecursion (λ y. n + 1 ≤ y) ns → AllByRecursion (λ y. a + 1 ≤ y) ns
      above_all_le a n [] lt h = tt
      above_all_le a n (y ∷ ys) lt h = (omega (arith, lt, h.0), above_all_le a n ys lt h.1)

      absent : (a : ℕ) (ns : List ℕ) (es : List (List ℕ)) → AllByRecursion (λ y. a < y) ns → entry_with ns es a ≡ []
      absent a [] es h = refl
      absent a (n ∷ ns) [] h = refl
      absent a (n ∷ ns) (e ∷ es) h = ap (λ (b : Bool). cond b e (entry_with ns es a)) (other n a (λ is. omega (arith, is, h.0))) ∙ absent a ns es h.1

  all_of_row : (count : ℕ) (ns : List ℕ) → AreNumbers count ns → InRow 0 count ns
  all_of_row count ns h = (
    recursion_from_All (λ (n : ℕ). 0 ≤ n) ns (λ k d lt. omega arith),
    recursion_from_All (λ (n : ℕ). n < 0 + count) ns (λ k d lt. omega (arith, h.below k d lt)),
    h.ascending,
  )

  pub spread_passes : (count : ℕ) (ns : List ℕ) (es : List (List ℕ)) → length ns ≡ length es → AreNumbers count ns
      → filter passes (enumerate_from 0 (spread count ns es)) ≡ filter passes (zip ns es)
  spread_passes count ns es long h = row_passes count 0 ns es long (all_of_row count ns h)

no_pairs : (n : ℕ) → [] ≡ zip {K = ℕ} {X = List ℕ} (take n []) (take n [])
no_pairs zero = refl
no_pairs (suc n) = refl

-- those of a run
run_zip : (p : List ℕ → Bool) (ns : List ℕ) (es : List (List ℕ)) (start stop : ℕ) → length ns ≡ length es → start ≤ stop
    → AllWithin (λ e. p e ≡ false) es 0 start → AllWithin (λ e. p e ≡ true) es start stop
    → AllWithin (λ e. p e ≡ false) es stop (length es)
    → filter (λ (x : ℕ × List ℕ). p x.1) (zip ns es) ≡ zip (take (stop - start) (drop start ns)) (take (stop - start) (drop start es))
run_zip p [] [] zero zero long le before inside behind = refl
run_zip p [] [] zero (suc stop) long le before inside behind = no_pairs (suc stop - zero)
run_zip p [] [] (suc start) zero long le before inside behind = absurd (omega (arith, le))
run_zip p [] [] (suc start) (suc stop) long le before inside behind = no_pairs (suc stop - suc start)
run_zip p [] (e ∷ es) start stop long le before inside behind = absurd (omega (arith, long))
run_zip p (n ∷ ns) [] start stop long le before inside behind = absurd (omega (arith, long))
run_zip p (n ∷ ns) (e ∷ es) zero zero long le before inside behind =
    ap (λ (b : Bool). cond b ((n, e) ∷ filter (λ (x : ℕ × List ℕ). p x.1) (zip ns es)) (filter (λ (x : ℕ × List ℕ). p x.1) (zip ns es)))
    (behind 0 e (omega arith) (omega arith))
    ∙ run_zip p ns es zero zero (omega (arith, long)) (omega arith) (λ k d low lt. absurd (omega (arith, lt))) (λ k d low lt. absurd (omega (arith, lt)))
    (λ k d low lt. behind (suc k) d (omega arith) (omega (arith, lt)))
run_zip p (n ∷ ns) (e ∷ es) zero (suc stop) long le before inside behind =
    let all : suc stop ≡ suc stop - zero = omega arith in
    let none : stop - zero ≡ stop = omega arith in
    ap (λ (b : Bool). cond b ((n, e) ∷ filter (λ (x : ℕ × List ℕ). p x.1) (zip ns es)) (filter (λ (x : ℕ × List ℕ). p x.1) (zip ns es)))
    (inside 0 e (omega arith) (omega arith))
    ∙ ap (λ (t : List (ℕ × List ℕ)). (n, e) ∷ t)
    (run_zip p ns es zero stop (omega (arith, long)) (omega arith) (λ k d low lt. absurd (omega (arith, lt)))
    (λ k d low lt. inside (suc k) d (omega arith) (omega (arith, lt)))
    (λ k d low lt. behind (suc k) d (omega (arith, low)) (omega (arith, lt)))
    ∙ ap (λ (m : ℕ). zip (take m ns) (take m es)) none)
    ∙ ap (λ (m : ℕ). zip (take m (n ∷ ns)) (take m (e ∷ es))) all
run_zip p (n ∷ ns) (e ∷ es) (suc start) zero long le before inside behind = absurd (omega (arith, le))
run_zip p (n ∷ ns) (e ∷ es) (suc start) (suc stop) long le before inside behind =
    let same : stop - start ≡ suc stop - suc start = omega arith in
    ap (λ (b : Bool). cond b ((n, e) ∷ filter (λ (x : ℕ × List ℕ). p x.1) (zip ns es)) (filter (λ (x : ℕ × List ℕ). p x.1) (zip ns es)))
    (before 0 e (omega arith) (omega arith))
    ∙ run_zip p ns es start stop (omega (arith, long)) (omega (arith, le)) (λ k d low lt. before (suc k) d (omega arith) (omega (arith, lt)))
    (λ k d low lt. inside (suc k) d (omega (arith, low)) (omega (arith, lt)))
    (λ k d low lt. behind (suc k) d (omega (arith, low)) (omega (arith, lt)))
    ∙ ap (λ (m : ℕ). zip (take m (drop start ns)) (take m (drop start es))) same

-- so a run of a part has the entries of all that pass, with their numbers
pub numbered_run : (p : List ℕ → Bool) (count start stop : ℕ) (ns : List ℕ) (es : List (List ℕ)) → p [] ≡ false → length ns ≡ length es
    → AreNumbers count ns → IsRun p es start stop
    → zip (take (stop - start) (drop start ns)) (take (stop - start) (drop start es))
    ≡ filter (λ (x : ℕ × List ℕ). p x.1) (enumerate_from 0 (spread count ns es))
numbered_run p count start stop ns es none long numbers run =
    sym (run_zip p ns es start stop long run.ordered run.before run.inside run.behind) ∙ sym (spread_passes p none count ns es long numbers)

-- an entry without bytes has no tag
pub no_tag : (tag : ℕ) (prefix : List ℕ) → 0 < tag → is_tagged tag prefix [] ≡ false
no_tag tag prefix some = ap (λ (b : Bool). b && is_under prefix []) (other 0 tag (λ h. omega (arith, h, some)))

-- a run of the entries of a part, with their numbers
pub run_of_part : (tag : ℕ) (prefix : List ℕ) (count start stop : ℕ) (ns : List ℕ) (items : List IndexEntry)
    → 0 < tag → ArePart count ns items → IsRun (is_tagged tag prefix) (map entry_bytes items) start stop
    → AreNumbered (is_tagged tag prefix) (spread count ns (map entry_bytes items)) (take (stop - start) (drop start ns))
    (map entry_bytes (take (stop - start) (drop start items)))
run_of_part tag prefix count start stop ns items some part run =
    let long : length (map entry_bytes items) ≡ length items = length-map items entry_bytes in
    let bytes : map entry_bytes (take (stop - start) (drop start items)) ≡ take (stop - start) (drop start (map entry_bytes items)) =
    sym (take-map entry_bytes (stop - start) (drop start items)) ∙ ap (take (stop - start)) (sym (drop-map entry_bytes start items)) in
    let first : length (take (stop - start) (drop start ns)) ≡ stop - start =
    length_run ns start stop run.ordered (omega (arith, run.within, long, part.many)) in
    let second : length (take (stop - start) (drop start (map entry_bytes items))) ≡ stop - start =
    length_run (map entry_bytes items) start stop run.ordered run.within in
    record {
      many = first ∙ sym second ∙ ap length (sym bytes);
      are = ap (zip (take (stop - start) (drop start ns))) bytes
          ∙ numbered_run (is_tagged tag prefix) count start stop ns (map entry_bytes items) (no_tag tag prefix some)
          (part.many ∙ sym long) part.numbered run;
    }

-- each has its fields
pub run_fields : (start m : ℕ) (items : List IndexEntry) → All HasItsFields items → All HasItsFields (take m (drop start items))
run_fields start m items fields = All-take HasItsFields m (drop start items) (All-drop HasItsFields start items fields)

-- ---- without their numbers

abbrev pub second : {X Y : Type 0} → X × Y → Y
second x = x.1

seconds_filter : (p : List ℕ → Bool) (xs : List (ℕ × List ℕ)) → map second (filter (λ (x : ℕ × List ℕ). p x.1) xs) ≡ filter p (map second xs)
seconds_filter p [] = refl
seconds_filter p (x ∷ xs) = by_test _ (p x.1)
    (λ yes.
    ap (λ (b : Bool). map second (cond b (x ∷ filter (λ (y : ℕ × List ℕ). p y.1) xs) (filter (λ (y : ℕ × List ℕ). p y.1) xs))) yes
    ∙ ap (λ (t : List (List ℕ)). x.1 ∷ t) (seconds_filter p xs)
    ∙ sym (ap (λ (b : Bool). cond b (x.1 ∷ filter p (map second xs)) (filter p (map second xs))) yes))
    (λ no.
    ap (λ (b : Bool). map second (cond b (x ∷ filter (λ (y : ℕ × List ℕ). p y.1) xs) (filter (λ (y : ℕ × List ℕ). p y.1) xs))) no
    ∙ seconds_filter p xs
    ∙ sym (ap (λ (b : Bool). cond b (x.1 ∷ filter p (map second xs)) (filter p (map second xs))) no))

pub seconds_enumerated : (n : ℕ) (xs : List (List ℕ)) → map second (enumerate_from n xs) ≡ xs
seconds_enumerated n [] = refl
seconds_enumerated n (x ∷ xs) = ap (λ (t : List (List ℕ)). x ∷ t) (seconds_enumerated (n + 1) xs)

pub seconds_zip : (ns : List ℕ) (es : List (List ℕ)) → length ns ≡ length es → map second (zip ns es) ≡ es
seconds_zip [] [] long = refl
seconds_zip [] (e ∷ es) long = absurd (omega (arith, long))
seconds_zip (n ∷ ns) [] long = absurd (omega (arith, long))
seconds_zip (n ∷ ns) (e ∷ es) long = ap (λ (t : List (List ℕ)). e ∷ t) (seconds_zip ns es (omega (arith, long)))

-- what passes of all is what passes of a part
pub filter_spread : (p : List ℕ → Bool) (count : ℕ) (ns : List ℕ) (es : List (List ℕ)) → p [] ≡ false → length ns ≡ length es
    → AreNumbers count ns → filter p (spread count ns es) ≡ filter p es
filter_spread p count ns es none long numbers =
    ap (filter p) (sym (seconds_enumerated 0 (spread count ns es)))
    ∙ sym (seconds_filter p (enumerate_from 0 (spread count ns es)))
    ∙ ap (map second) (spread_passes p none count ns es long numbers)
    ∙ seconds_filter p (zip ns es) ∙ ap (filter p) (seconds_zip ns es long)

-- of numbered entries those that pass are all of them
pub numbered_entries : (p : List ℕ → Bool) (all : List (List ℕ)) (ns : List ℕ) (es : List (List ℕ)) → AreNumbered p all ns es → es ≡ filter p all
numbered_entries p all ns es h =
    sym (seconds_zip ns es h.many) ∙ ap (map second) h.are ∙ seconds_filter p (enumerate_from 0 all)
    ∙ ap (filter p) (seconds_enumerated 0 all)

-- ---- an entry by its number

-- the fronts of all are all of the fronts
front_with : (f : List ℕ → List ℕ) (ns : List ℕ) (es : List (List ℕ)) (k : ℕ) → f [] ≡ [] → f (entry_with ns es k) ≡ entry_with ns (map f es) k
front_with f [] es k none = none
front_with f (n ∷ ns) [] k none = none
front_with f (n ∷ ns) (e ∷ es) k none = by_test _ (eqb n k)
    (λ yes. ap (λ (b : Bool). f (cond b e (entry_with ns es k))) yes ∙ sym (ap (λ (b : Bool). cond b (f e) (entry_with ns (map f es) k)) yes))
    (λ no. ap (λ (b : Bool). f (cond b e (entry_with ns es k))) no ∙ front_with f ns es k none
    ∙ sym (ap (λ (b : Bool). cond b (f e) (entry_with ns (map f es) k)) no))

pub fronts_spread : (f : List ℕ → List ℕ) (count : ℕ) (ns : List ℕ) (es : List (List ℕ)) → f [] ≡ [] → map f (spread count ns es) ≡ spread count ns (map f es)
fronts_spread f count ns es none = map_both 0 count
  where
    map_both : (a m : ℕ) → map f (map (entry_with ns es) (range_with_len a m)) ≡ map (entry_with ns (map f es)) (range_with_len a m)
    map_both a zero = refl
    map_both a (suc m) = λ i. front_with f ns es a none i ∷ map_both (a + 1) m i

-- the entry with the number of one is this one
own_entry : (ns : List ℕ) (es : List (List ℕ)) (at : ℕ) → length ns ≡ length es → IsStrictlySortedBy nat_cmp ns → at < length ns
    → entry_with ns es (get_or ns at 0) ≡ get_or es at []
unfolding IsStrictlySortedBy
own_entry [] es at long up lt = absurd (omega (arith, lt))
own_entry (n ∷ ns) [] at long up lt = absurd (omega (arith, long))
own_entry (n ∷ ns) (e ∷ es) zero long up lt = ap (λ (b : Bool). cond b e (entry_with ns es n)) (eq-eqb n n refl)
own_entry (n ∷ ns) (e ∷ es) (suc at) long up lt =
    let above : n < get_or ns at 0 = later n ns at (above_head n ns up.0) (omega (arith, lt)) in
    ap (λ (b : Bool). cond b e (entry_with ns es (get_or ns at 0))) (other n (get_or ns at 0) (λ h. omega (arith, above, h)))
    ∙ own_entry ns es at (omega (arith, long)) up.1 (omega (arith, lt))
  where
    later : (n : ℕ) (ns : List ℕ) (at : ℕ) → AllByRecursion (λ y. n + 1 ≤ y) ns → at < length ns → n < get_or ns at 0
    later n [] at h lt = absurd (omega (arith, lt))
    later n (y ∷ ys) zero h lt = omega (arith, h.0)
    later n (y ∷ ys) (suc at) h lt = later n ys at h.1 (omega (arith, lt))

pub at_number : (count : ℕ) (ns : List ℕ) (es : List (List ℕ)) (at : ℕ) → length ns ≡ length es → AreNumbers count ns → at < length ns
    → (get_or ns at 0 < count) × (get_or (spread count ns es) (get_or ns at 0) [] ≡ get_or es at [])
at_number count ns es at long numbers lt =
    let below : get_or ns at 0 < count = numbers.below at 0 lt in (
      below,
      get_or-map-range_with_len (entry_with ns es) 0 count (get_or ns at 0) (get_or ns at 0) [] below (omega arith)
          ∙ own_entry ns es at long numbers.ascending lt,
    )

-- an entry of which more is asked than none has is one with a number
pub record HasNumber (ns : List ℕ) (es : List (List ℕ)) (j : ℕ) (e : List ℕ) : Type 0 where
  pub place : ℕ
  pub within : place < length ns
  pub number_is : get_or ns place 0 ≡ j
  pub entry_is : get_or es place [] ≡ e

has_number : (p : List ℕ → Bool) (ns : List ℕ) (es : List (List ℕ)) (j : ℕ) → p [] ≡ false → p (entry_with ns es j) ≡ true
    → HasNumber ns es j (entry_with ns es j)
has_number p [] es j none h = absurd (true≢false (sym h ∙ none))
has_number p (n ∷ ns) [] j none h = absurd (true≢false (sym h ∙ none))
has_number p (n ∷ ns) (e ∷ es) j none h = by_test _ (eqb n j)
    (λ yes. record {
      place = 0;
      within = omega arith;
      number_is = eqb-true n j yes;
      entry_is = sym (ap (λ (b : Bool). cond b e (entry_with ns es j)) yes);
    })
    (λ no.
    let same : entry_with (n ∷ ns) (e ∷ es) j ≡ entry_with ns es j = ap (λ (b : Bool). cond b e (entry_with ns es j)) no in
    let rest = has_number p ns es j none (sym (ap p same) ∙ h) in
    record { place = suc rest.place; within = omega (arith, rest.within); number_is = rest.number_is; entry_is = rest.entry_is ∙ sym same })

pub number_of : (p : List ℕ → Bool) (count : ℕ) (ns : List ℕ) (es : List (List ℕ)) (j : ℕ) → p [] ≡ false → j < count
    → p (get_or (spread count ns es) j []) ≡ true → HasNumber ns es j (get_or (spread count ns es) j [])
number_of p count ns es j none lt h =
    let is : get_or (spread count ns es) j [] ≡ entry_with ns es j = get_or-map-range_with_len (entry_with ns es) 0 count j j [] lt (omega arith) in
    subst (HasNumber ns es j) (sym is) (has_number p ns es j none (sym (ap p is) ∙ h))

pub length_spread : (count : ℕ) (ns : List ℕ) (es : List (List ℕ)) → length (spread count ns es) ≡ count
length_spread count ns es = length-map-range_with_len (entry_with ns es) 0 count
