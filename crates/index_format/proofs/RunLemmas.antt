-- Entries of one tag under a front stand together.
use Rattle.std.proofs.Common.{◌≡◌, ℕ, zero, suc, ◌+◌, ◌-◌, ◌<◌, ◌≤◌, Bool, true, false, ◌&&◌, eqb, nat_lt, List, []}
use Rattle.std.proofs.Common.{◌∷◌, length, map, take, drop, get_or, refl, sym, ap, ◌∙◌, subst, arith, eq-eqb}
use Rattle.std.proofs.Common.{length-drop}
use mathlib.Core.Bool.{true≢false}
use Rattle.std.specs.declared.cmp.Ordering.{Ordering}
use Rattle.std.specs.declared.cmp.Ordering.TheVariants.{Less, Equal, Greater}
use Rattle.std.specs.Ordering.{nat_cmp, is_lt, is_le, is_eq, ordering_then}
use Rattle.std.specs.Cmp.{Equal-is, both_ways, tied_itself}
use Rattle.std.specs.Cmp.Lexicographic.{slice_cmp, nat_list_cmp_total}
use Rattle.std.specs.List.{AllByRecursion, AllWithin}
use Rattle.std.specs.List.Sorted.{IsStrictlySortedBy, IsPartitionedBy, IsPartitionPoint}
use Rattle.std.specs.Str.{bytes_eq}
use Rattle.std.proofs.lemmas.Bool.{eqb-true}
use Rattle.std.proofs.lemmas.Bool.Decides.{nat_tests}
use Rattle.std.proofs.lemmas.List.{drop-take, get_or-map as get_or-map_at, get_or-take, length-take-le, take-append-drop, take-take}
use Rattle.std.proofs.lemmas.List.Elements.{All-from_recursion}
use Rattle.std.proofs.lemmas.Map.Keys.{Less-from_sorted}
use Rattle.std.proofs.lemmas.Slice.Eq.{bytes_eq-Decides}
use Rattle.std.proofs.Math.ListN.{get_or-map, length-map}
use Rattle.std.proofs.Math.Seq.{take-nil}
use Rattle.std.specs.Prelude.{filter}
use Rattle.archive_core.specs.Part.{is_under}
use Rattle.archive_core.proofs.Compare.{slice_cmp-append}
use Rattle.archive_core.proofs.Made.{and_left, and_right, bytes_same, by_test}
use Rattle.index_format.specs.Runs.{IsRun, is_tagged}
use Rattle.join_core.proofs.Search.{eq_of_lt, eq_of_gt, eq_of_both}

abbrev order : List ℕ → List ℕ → Ordering
order = slice_cmp nat_cmp

-- how the first n bytes of an entry compare with these
abbrev pub begins : ℕ → List ℕ → List ℕ → Ordering
begins n w e = order (take n e) w

module _ (test : Ordering → Bool) (less : test Less ≡ true) (greater : test Greater ≡ false) where
  -- what is not above a text that passes, passes
  passes : (x y w : List ℕ) (r s : Ordering) → order x y ≡ r → order y w ≡ s → (t : Ordering) → ordering_then r t ≡ Less
      → test s ≡ true → test (order x w) ≡ true
  passes x y w Less Less e f t h g = rw (nat_list_cmp_total.trans x y w e f) less
  passes x y w Less Equal e f t h g = let same = bytes_same y w f in rw (← same, e) less
  passes x y w Less Greater e f t h g = cc
  passes x y w Equal s e f t h g = let same = bytes_same x y e in rw (same, f) g
  passes x y w Greater s e f t h g = cc

  rises : (n : ℕ) (w a b : List ℕ) → length (take n a) ≡ length (take n b) → order a b ≡ Less → test (begins n w b) ≡ true → test (begins n w a) ≡ true
  rises n w a b same h g =
      passes (take n a) (take n b) w _ _ refl refl (order (drop n a) (drop n b))
      (sym (slice_cmp-append (take n a) (take n b) (drop n a) (drop n b) same) ∙ (λ i. order (take-append-drop n a i) (take-append-drop n b i)) ∙ h)
      g

  -- so the test of how they begin parts entries that ascend
  pub parts : (n : ℕ) (w : List ℕ) (xs : List (List ℕ)) → IsStrictlySortedBy order xs
      → AllByRecursion (λ e. n ≤ length e) xs → IsPartitionedBy (λ e. test (begins n w e)) xs
  parts n w xs ascending long i j d le lt t = by_test _ (nat_lt i j)
      (λ yes.
      let below : i < j = grind (arith, nat_tests) in
      let long_at : (k : ℕ) → k < length xs → length (take n (get_or xs k d))
      ≡ n = λ k there. length-take-le n (get_or xs k d)
      (All-from_recursion (λ (e : List ℕ). n ≤ length e) xs long k d there) in
      rises n w (get_or xs i d) (get_or xs j d) (long_at i (omega arith) ∙ sym (long_at j lt)) (Less-from_sorted order xs i j d ascending below lt) t)
      (λ no. let same : j ≡ i = grind (arith, nat_tests) in subst (λ (k : ℕ). test (begins n w (get_or xs k d)) ≡ true) same t)

  -- and what has such bytes
  pub parts_items : {X : Type 0} (bytes_of : X → List ℕ) (n : ℕ) (w : List ℕ) (xs : List X)
      → IsStrictlySortedBy order (map bytes_of xs) → AllByRecursion (λ e. n ≤ length e) (map bytes_of xs)
      → IsPartitionedBy (λ x. test (begins n w (bytes_of x))) xs
  parts_items bytes_of n w xs ascending long i j d le lt t =
      let P : List ℕ → Type 0 = λ e. test (begins n w e) ≡ true in
      subst P (get_or-map bytes_of xs i d) (parts n w (map bytes_of xs) ascending long i j (bytes_of d) le
      (omega (arith, length-map xs bytes_of)) (subst P (sym (get_or-map bytes_of xs j d)) t))

-- an entry has a tag and a front where it begins with the two
pub tagged : (tag : ℕ) (front e : List ℕ) → 0 < length e → is_eq (begins (length front + 1) (tag ∷ front) e) ≡ is_tagged tag front e
unfolding is_under
tagged tag front [] some = absurd (omega arith)
tagged tag front (x ∷ xs) some =
    let one : length front + 1 ≡ suc (length front) = omega arith in
    let first : take (length front + 1) (x ∷ xs) ≡ x ∷ take (length front) xs = ap (λ (k : ℕ). take k (x ∷ xs)) one in
    both_ways _ _
    (λ h.
    let same : x ∷ take (length front) xs ≡ tag ∷ front = sym first
    ∙ bytes_same _ (tag ∷ front) ((Equal-is (begins (length front + 1) (tag ∷ front) (x ∷ xs))).0 h) in
    ap (λ (b : Bool). b && bytes_eq front (take (length front) xs))
    (eq-eqb x tag (ap (λ (l : List ℕ). get_or l 0 0) same))
    ∙ (bytes_eq-Decides front (take (length front) xs)).1 (sym (ap (drop 1) same)))
    (λ h.
    let tag_is : x ≡ tag = eqb-true x tag (and_left _ _ h) in
    let front_is : front ≡ take (length front) xs = (bytes_eq-Decides front (take (length front) xs)).0 (and_right (eqb x tag) _ h) in
    ap (λ (l : List ℕ). is_eq (order l (tag ∷ front))) (first ∙ (λ i. tag_is i ∷ sym front_is i)) ∙ ap is_eq (tied_itself nat_list_cmp_total (tag ∷ front)))

-- what the first 74 bytes of an entry begin with, it begins with
tagged_front : (tag : ℕ) (front e : List ℕ) → length front ≤ 24 → is_tagged tag front (take 74 e) ≡ is_tagged tag front e
unfolding is_under
tagged_front tag front e short =
    let first : get_or (take 74 e) 0 0 ≡ get_or e 0 0 = get_or-take 74 e 0 0 (omega arith) in
    let key : take (length front) (drop 1 (take 74 e)) ≡ take (length front) (drop 1 e) =
    ap (take (length front)) (drop-take 1 73 e) ∙ take-take (length front) 73 (drop 1 e) (omega (arith, short)) in
    λ i. eqb (first i) tag && bytes_eq front (key i)

-- so a run of the first 74 bytes of entries is one of the entries
pub run_whole : (tag : ℕ) (front : List ℕ) (es : List (List ℕ)) (start stop : ℕ) → length front ≤ 24
    → IsRun (is_tagged tag front) (map (take 74) es) start stop → IsRun (is_tagged tag front) es start stop
run_whole tag front es start stop short run =
    let long : length (map (take 74) es) ≡ length es = length-map es (take 74) in
    let same : (k : ℕ) (d : List ℕ) → is_tagged tag front (get_or es k d) ≡ is_tagged tag front (get_or (map (take 74) es) k (take 74 d)) =
    λ k d. sym (ap (is_tagged tag front) (get_or-map (take 74) es k d) ∙ tagged_front tag front (get_or es k d) short) in
    record {
      ordered = run.ordered;
      within = omega (arith, long, run.within);
      before = λ k d le lt. same k d ∙ run.before k (take 74 d) le lt;
      inside = λ k d le lt. same k d ∙ run.inside k (take 74 d) le lt;
      behind = λ k d le lt. same k d ∙ run.behind k (take 74 d) le (omega (arith, long, lt));
    }

le_of_lt : (r : Ordering) → is_lt r ≡ true → is_le r ≡ true
le_of_lt r h = grind arith

module _ {X : Type 0} where
  -- where none passes from one place up to another, none more is kept
  pub past : (p : X → Bool) (xs : List X) (n m : ℕ) → n ≤ m → AllWithin (λ x. p x ≡ false) xs n m → filter p (take m xs) ≡ filter p (take n xs)
  past p [] n m le none = rw (take-nil n, take-nil m)
  past p (x ∷ xs) zero zero le none = refl
  past p (x ∷ xs) zero (suc m) le none = rw (none 0 x (omega arith) (omega arith))
      (past p xs 0 m (omega arith) (λ k d low high. none (suc k) d (omega arith) (omega arith)))
  past p (x ∷ xs) (suc n) zero le none = absurd (omega arith)
  past p (x ∷ xs) (suc n) (suc m) le none = rw (past p xs n m (omega arith) (λ k d low high. none (suc k) d (omega arith) (omega arith)))

  -- a run is as long as it says
  pub length_run : (xs : List X) (start stop : ℕ) → start ≤ stop → stop ≤ length xs → length (take (stop - start) (drop start xs)) ≡ stop - start
  length_run xs start stop ordered within = length-take-le (stop - start) (drop start xs) (omega (arith, length-drop start xs, ordered, within))

module _ {X : Type 0} (bytes_of : X → List ℕ) where
  -- what is true of items at places is true of their bytes
  along : (P : List ℕ → Type 0) (xs : List X) (low high : ℕ) → high ≤ length xs
      → AllWithin (λ x. P (bytes_of x)) xs low high → AllWithin P (map bytes_of xs) low high
  along P [] low high within h k d le lt = absurd (omega arith)
  along P (x ∷ xs) low high within h k d le lt = subst P (sym (get_or-map_at bytes_of (x ∷ xs) k x d (omega (arith, within, lt)))) (h k x le lt)

  -- the two places that a test by halves finds
  pub run_found : (tag : ℕ) (front : List ℕ) (xs : List X) (start stop : ℕ)
      → AllByRecursion (λ e. 1 ≤ length e) (map bytes_of xs) → start ≤ length xs → stop ≤ length xs
      → IsPartitionPoint (λ x. is_lt (begins (length front + 1) (tag ∷ front) (bytes_of x)) ≡ true)
      (λ x. is_lt (begins (length front + 1) (tag ∷ front) (bytes_of x)) ≡ false) xs start
      → IsPartitionPoint (λ x. is_le (begins (length front + 1) (tag ∷ front) (bytes_of x)) ≡ true)
      (λ x. is_le (begins (length front + 1) (tag ∷ front) (bytes_of x)) ≡ false) xs stop
      → IsRun (is_tagged tag front) (map bytes_of xs) start stop
  run_found tag front xs start stop some start_in stop_in first second =
      let entries = map bytes_of xs in
      let long : length entries ≡ length xs = length-map xs bytes_of in
      let compared = begins (length front + 1) (tag ∷ front) in
      let below = along (λ e. is_lt (compared e) ≡ true) xs 0 start start_in first.0 in
      let from = along (λ e. is_lt (compared e) ≡ false) xs start (length xs) (omega arith) first.1 in
      let upto = along (λ e. is_le (compared e) ≡ true) xs 0 stop stop_in second.0 in
      let above = along (λ e. is_le (compared e) ≡ false) xs stop (length xs) (omega arith) second.1 in
      let same : (k : ℕ) (d : List ℕ) → k < length entries → is_tagged tag front (get_or entries k d) ≡ is_eq (compared (get_or entries k d)) =
      λ k d lt. sym (tagged tag front (get_or entries k d) (All-from_recursion (λ (e : List ℕ). 1 ≤ length e) entries some k d lt)) in
      record {
        ordered = by_test _ (nat_lt stop start)
            (λ yes.
            let behind : stop < start = grind (arith, nat_tests) in
            absurd (true≢false (sym (le_of_lt (compared (get_or entries stop [])) (below stop [] (omega arith) behind))
            ∙ above stop [] (omega arith) (omega (arith, behind, start_in)))))
            (λ no. grind (arith, nat_tests));
        within = omega (arith, long, stop_in);
        before = λ k d le lt. same k d (omega (arith, long, start_in, lt)) ∙ eq_of_lt _ (below k d le lt);
        inside = λ k d le lt. same k d (omega (arith, long, stop_in, lt)) ∙ eq_of_both _ (from k d le (omega (arith, stop_in, lt))) (upto k d (omega arith) lt);
        behind = λ k d le lt. same k d lt ∙ eq_of_gt _ (above k d le (omega (arith, long, lt)));
      }
