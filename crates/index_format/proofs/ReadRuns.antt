-- Entries that are read run after run.
use Rattle.std.proofs.Common.{◌≡◌, ℕ, zero, suc, ◌+◌, ◌-◌, ◌<◌, ◌≤◌, Bool, true, false, cond, eqb, nat_lt, ◌||◌, ◌&&◌, not, List, []}
use Rattle.std.proofs.Common.{◌∷◌, ◌++◌, length, take, drop, get_or, refl, sym, ap, ◌∙◌, subst, arith, length-drop}
use mathlib.Core.Bool.{true≢false}
use Rattle.std.specs.Ordering.{is_eq, nat_cmp, ordering_then}
use Rattle.std.specs.declared.cmp.Ordering.{Ordering}
use Rattle.std.specs.declared.cmp.Ordering.TheVariants.{Less, Equal, Greater}
use Rattle.std.specs.Cmp.Lexicographic.{slice_cmp, nat_list_cmp_total}
use Rattle.std.specs.List.{AllByRecursion, list_any, range_with_len}
use Rattle.std.specs.List.Sorted.{IsStrictlySortedBy}
use Rattle.std.proofs.lemmas.Bool.{eqb-true}
use Rattle.std.proofs.lemmas.Bool.Decides.{nat_tests}
use Rattle.std.proofs.lemmas.List.{append_assoc, get_or-drop, get_or-map, get_or-take, get_or_past, length-map, length-take-le, take_all, take_more}
use Rattle.std.proofs.lemmas.List.Elements.{All-from_recursion}
use Rattle.std.proofs.lemmas.List.FromFn.{fill_by_all}
use Rattle.std.proofs.lemmas.List.Sums.{sum_by-cons}
use Rattle.std.proofs.lemmas.Map.Keys.{Less-from_sorted}
use Rattle.archive_core.specs.Content.{is_admission}
use Rattle.archive_core.specs.Part.{is_under}
use Rattle.archive_core.proofs.Made.{by_test, bytes_same, either}
use Rattle.index_format.specs.Entry.{has_tag}
use Rattle.index_format.specs.InnerPaged.{AreSought, HaveTags, bytes_of, is_tagged_one, numbers_of}
use Rattle.index_format.specs.declared.paged_entry.PagedEntry.{PagedEntry}
use Rattle.index_format.specs.Paged.{IsRunWithin, begins_as, kept, only}
use Rattle.index_format.specs.Runs.{is_tagged}
use Rattle.index_format.specs.Spread.{AreNumbers, entry_with, spread}
use Rattle.index_format.specs.Text.{retired_in}
use Rattle.index_format.specs.Tree.{is_under_one}
use Rattle.index_format.proofs.EntryOrder.{not_before}
use Rattle.index_format.proofs.RunLemmas.{tagged}
use Rattle.index_format.proofs.SpreadLemmas.{numbers_more, numbers_up, run_in, run_out}

-- an entry has a tag and a UUID where it begins with them
pub tagged_as : (tag : ℕ) (uuid e : List ℕ) → length uuid ≡ 16 → 0 < length e → is_tagged tag uuid e ≡ is_eq (begins_as tag uuid e)
tagged_as tag uuid e wide some =
    let n_is : length uuid + 1 ≡ 17 = omega (arith, wide) in
    sym (tagged tag uuid e some) ∙ ap (λ (n : ℕ). is_eq (slice_cmp nat_cmp (take n e) (tag ∷ uuid))) n_is

as_less : (r : Ordering) → r ≡ Less → is_eq r ≡ false
as_less r h = ap is_eq h

as_greater : (r : Ordering) → r ≡ Greater → is_eq r ≡ false
as_greater r h = ap is_eq h

kept_same : (p q : List ℕ → Bool) (e : List ℕ) → p e ≡ q e → kept p e ≡ kept q e
kept_same p q e h = ap (λ (b : Bool). cond b e []) h

kept_none : (p : List ℕ → Bool) (e : List ℕ) → p e ≡ false → kept p e ≡ []
kept_none p e h = ap (λ (b : Bool). cond b e []) h

kept_one : (p : List ℕ → Bool) (e : List ℕ) → p e ≡ true → kept p e ≡ e
kept_one p e h = ap (λ (b : Bool). cond b e []) h

or_false : (a b : Bool) → b ≡ false → (a || b) ≡ a
or_false a b h = grind arith

or_true : (a b : Bool) → b ≡ true → (a || b) ≡ true
or_true a b h = grind arith

-- past all entries there is none to keep
kept_past : (p : List ℕ → Bool) (entries : List (List ℕ)) (k : ℕ) → length entries ≤ k → kept p (get_or entries k []) ≡ []
kept_past p entries k past =
    let none : get_or entries k [] ≡ [] = get_or_past entries k [] past in
    ap (kept p) none ∙ by_test _ (p []) (λ yes. ap (λ (b : Bool). cond b [] []) yes) (λ no. ap (λ (b : Bool). cond b [] []) no)

module _ (passes : List ℕ → Bool) (tag : ℕ) (uuid : List ℕ) (wide : length uuid ≡ 16) (entries : List (List ℕ))
    (long : AllByRecursion (λ e. length e ≡ 122) entries) where
  some_at : (k : ℕ) → k < length entries → 0 < length (get_or entries k [])
  some_at k lt = omega (arith, All-from_recursion (λ (e : List ℕ). length e ≡ 122) entries long k [] lt)

  abbrev pub more : List ℕ → Bool
  more e = passes e || is_tagged tag uuid e

  module _ (from to start stop : ℕ) (run : IsRunWithin tag uuid entries from to start stop) (within : to ≤ length entries)
      (low : (k : ℕ) → k < from → begins_as tag uuid (get_or entries k []) ≡ Less)
      (high : (k : ℕ) → to ≤ k → k < length entries → begins_as tag uuid (get_or entries k []) ≡ Greater)
      (none : (k : ℕ) → from ≤ k → k < length entries → passes (get_or entries k []) ≡ false) where
    -- all before the end of a run begin lower, or as it does
    pub lower : (k : ℕ) → k < start → begins_as tag uuid (get_or entries k []) ≡ Less
    lower k lt = by_test _ (nat_lt k from)
        (λ yes. let before : k < from = grind (arith, nat_tests) in low k before)
        (λ no. let behind : from ≤ k = grind (arith, nat_tests) in run.before k [] behind lt)

    pub higher : (k : ℕ) → stop ≤ k → k < length entries → begins_as tag uuid (get_or entries k []) ≡ Greater
    higher k le lt = by_test _ (nat_lt k to)
        (λ yes. let before : k < to = grind (arith, nat_tests) in run.behind k [] le before)
        (λ no. let behind : to ≤ k = grind (arith, nat_tests) in high k behind lt)

    untagged : (k : ℕ) → k < length entries → (start ≤ k → k < stop → ⊥) → is_tagged tag uuid (get_or entries k []) ≡ false
    untagged k lt out = tagged_as tag uuid (get_or entries k []) wide (some_at k lt) ∙ by_test _ (nat_lt k start)
        (λ yes. let before : k < start = grind (arith, nat_tests) in as_less _ (lower k before))
        (λ no.
        let behind : start ≤ k = grind (arith, nat_tests) in
        by_test _ (nat_lt k stop)
        (λ in_it. let inside : k < stop = grind (arith, nat_tests) in absurd (out behind inside))
        (λ past. let after : stop ≤ k = grind (arith, nat_tests) in as_greater _ (higher k after lt)))

    -- so with the run those are kept that pass or are in it
    pub run_read : (ns : List ℕ) (es : List (List ℕ)) → length ns ≡ length es → AreNumbers from ns
        → ((k : ℕ) → entry_with ns es k ≡ kept passes (get_or entries k []))
        → (k : ℕ) → entry_with (ns ++ range_with_len start (stop - start)) (es ++ take (stop - start) (drop start entries)) k
        ≡ kept more (get_or entries k [])
    run_read ns es many below are k =
        let m : ℕ = stop - start in
        let ys : List (List ℕ) = take m (drop start entries) in
        let e : List ℕ = get_or entries k [] in
        let end : start + m ≡ stop = omega (arith, run.ordered) in
        let last : stop ≤ length entries = omega (arith, run.most, within) in
        let out_of : (start ≤ k → k < stop → ⊥) → entry_with (ns ++ range_with_len start m) (es ++ ys) k ≡ kept more e =
        λ out. run_out start m ns es ys k many (λ low lt. out low (omega (arith, lt, end))) ∙ are k ∙ by_test _ (nat_lt k (length entries))
        (λ yes.
        let there : k < length entries = grind (arith, nat_tests) in
        kept_same passes more e (sym (or_false (passes e) _ (untagged k there out))))
        (λ no.
        let past : length entries ≤ k = grind (arith, nat_tests) in
        kept_past passes entries k past ∙ sym (kept_past more entries k past)) in
        by_test _ (nat_lt k start)
        (λ yes. let before : k < start = grind (arith, nat_tests) in out_of (λ low lt. omega (arith, low, before)))
        (λ no.
        let behind : start ≤ k = grind (arith, nat_tests) in
        by_test _ (nat_lt k stop)
        (λ in_it.
        let inside : k < stop = grind (arith, nat_tests) in
        let there : k < length entries = omega (arith, inside, last) in
        let back : start + (k - start) ≡ k = omega (arith, behind) in
        run_in start m ns es ys k many (record { ascending = below.ascending; below = λ i d lt. omega (arith, below.below i d lt, run.least) })
        (length-take-le m (drop start entries) (omega (arith, length-drop start entries, last, run.ordered)))
        behind (omega (arith, inside, end))
        ∙ get_or-take m (drop start entries) (k - start) [] (omega (arith, inside, behind))
        ∙ get_or-drop start entries (k - start) [] ∙ ap (λ (i : ℕ). get_or entries i []) back
        ∙ sym (kept_one more e (or_true (passes e) _ (tagged_as tag uuid e wide (some_at k there) ∙ ap is_eq (run.inside k [] behind inside)))))
        (λ past. let after : stop ≤ k = grind (arith, nat_tests) in out_of (λ low lt. omega (arith, lt, after))))

-- ---- one entry more of a run

pub row_pushed : (old now : List ℕ) (start number : ℕ) → start ≤ number → now ≡ old ++ range_with_len start (number - start)
    → now ++ number ∷ [] ≡ old ++ range_with_len start (number + 1 - start)
row_pushed old now start number le is =
    let more : number - start + 1 ≡ number + 1 - start = omega (arith, le) in
    ap (λ (t : List ℕ). t ++ number ∷ []) is ∙ append_assoc old (range_with_len start (number - start)) (number ∷ [])
    ∙ ap (λ (t : List ℕ). old ++ t) (sym (row_more start (number - start) number (omega (arith, le))) ∙ ap (range_with_len start) more)
  where
    row_last : (a n j : ℕ) → a + n ≡ j → range_with_len a (suc n) ≡ range_with_len a n ++ j ∷ []
    row_last a zero j e = let same : a ≡ j = omega (arith, e) in ap (λ (k : ℕ). k ∷ []) same
    row_last a (suc n) j e = ap (λ (l : List ℕ). a ∷ l) (row_last (a + 1) n j (omega (arith, e)))

    row_more : (a n j : ℕ) → a + n ≡ j → range_with_len a (n + 1) ≡ range_with_len a n ++ j ∷ []
    row_more a n j e = let next : n + 1 ≡ suc n = omega arith in ap (range_with_len a) next ∙ row_last a n j e

pub run_pushed : (entries old now : List (List ℕ)) (start number : ℕ) (e : List ℕ) → start ≤ number → number < length entries
    → now ≡ old ++ take (number - start) (drop start entries) → e ≡ get_or entries number []
    → now ++ e ∷ [] ≡ old ++ take (number + 1 - start) (drop start entries)
run_pushed entries old now start number e le lt is at =
    let n : ℕ = number - start in
    let rest : List (List ℕ) = drop start entries in
    let back : start + n ≡ number = omega (arith, le) in
    let more : n + 1 ≡ number + 1 - start = omega (arith, le) in
    let here : e ≡ get_or rest n [] = at ∙ sym (get_or-drop start entries n [] ∙ ap (λ (i : ℕ). get_or entries i []) back) in
    (λ i. is i ++ here i ∷ []) ∙ append_assoc old (take n rest) (get_or rest n [] ∷ [])
    ∙ ap (λ (t : List (List ℕ)). old ++ t)
    (sym (take_more rest n [] (omega (arith, length-drop start entries, le, lt))) ∙ ap (λ (m : ℕ). take m rest) more)

-- ---- one UUID after the other

self : (t : ℕ) → nat_cmp t t ≡ Equal
self t = grind (arith, nat_tests)

same_tag : (t : ℕ) (u v : List ℕ) → slice_cmp nat_cmp (t ∷ u) (t ∷ v) ≡ slice_cmp nat_cmp u v
same_tag t u v = ap (λ (r : Ordering). ordering_then r (slice_cmp nat_cmp u v)) (self t)

-- what begins up to a tag and a UUID begins lower than with a higher one
before_next : (t : ℕ) (u v e : List ℕ) → slice_cmp nat_cmp u v ≡ Less → begins_as t u e ≡ Less → begins_as t v e ≡ Less
before_next t u v e up lower = nat_list_cmp_total.trans (take 17 e) (t ∷ u) (t ∷ v) lower (same_tag t u v ∙ up)

with_next : (t : ℕ) (u v e : List ℕ) → slice_cmp nat_cmp u v ≡ Less → begins_as t u e ≡ Equal → begins_as t v e ≡ Less
with_next t u v e up equal =
    ap (λ (x : List ℕ). slice_cmp nat_cmp x (t ∷ v)) (bytes_same (take 17 e) (t ∷ u) equal) ∙ same_tag t u v ∙ up

any_more : (f : List ℕ → Bool) (us : List (List ℕ)) (u : List ℕ) → list_any f (us ++ u ∷ []) ≡ (list_any f us || f u)
any_more f [] u = or_nothing (f u)
  where
    or_nothing : (b : Bool) → (b || false) ≡ (false || b)
    or_nothing b = grind arith
any_more f (x ∷ us) u = ap (λ (b : Bool). f x || b) (any_more f us u) ∙ regroup (f x) (list_any f us) (f u)
  where
    regroup : (a b c : Bool) → (a || (b || c)) ≡ ((a || b) || c)
    regroup a b c = grind arith

-- after some of the UUIDs
pub record AreWalked (passes : List ℕ → Bool) (tag : ℕ) (uuids entries : List (List ℕ)) (i next : ℕ) (ns : List ℕ)
    (es : List (List ℕ)) : Type 0 where
  pub read : (k : ℕ) → entry_with ns es k ≡ kept (λ e. passes e || is_tagged_one tag (take i uuids) e) (get_or entries k [])
  pub low : (k j : ℕ) → k < next → i ≤ j → j < length uuids → begins_as tag (get_or uuids j []) (get_or entries k []) ≡ Less
  pub none : (k : ℕ) → next ≤ k → k < length entries → (passes (get_or entries k []) || is_tagged_one tag (take i uuids) (get_or entries k [])) ≡ false

module _ (passes : List ℕ → Bool) (tag : ℕ) (uuids entries : List (List ℕ)) (from to : ℕ) (sought : AreSought passes tag uuids entries from to) where
  pub walk_begins : (ns : List ℕ) (es : List (List ℕ)) → ((k : ℕ) → entry_with ns es k ≡ kept passes (get_or entries k []))
      → AreWalked passes tag uuids entries 0 from ns es
  walk_begins ns es are = record {
    read = λ k. are k ∙ kept_same passes (λ e. passes e || is_tagged_one tag (take 0 uuids) e) (get_or entries k [])
        (sym (or_false (passes (get_or entries k [])) (is_tagged_one tag (take 0 uuids) (get_or entries k [])) refl));
    low = λ k j lt le there. sought.low k j lt there;
    none = λ k le lt. or_false (passes (get_or entries k [])) (is_tagged_one tag (take 0 uuids) (get_or entries k [])) refl ∙ sought.none k le lt;
  }

  abbrev seen : ℕ → List ℕ → Bool
  seen i e = passes e || is_tagged_one tag (take i uuids) e

  -- what is sought for the next UUID
  pub walk_seeks : (i next : ℕ) (uuid : List ℕ) (ns : List ℕ) (es : List (List ℕ)) → i < length uuids → uuid ≡ get_or uuids i []
      → AreWalked passes tag uuids entries i next ns es → AreSought (seen i) tag (uuid ∷ []) entries next to
  walk_seeks i next uuid ns es lt is walk = record {
    low = λ k j below one. one_low j one k below;
    high = λ k j far there one. one_high j one k far there;
    none = walk.none;
  }
    where
      one_low : (j : ℕ) → j < 1 → (k : ℕ) → k < next → begins_as tag (get_or (uuid ∷ []) j []) (get_or entries k []) ≡ Less
      one_low zero one k below = ap (λ (u : List ℕ). begins_as tag u (get_or entries k [])) is ∙ walk.low k i below (omega arith) lt
      one_low (suc j) one k below = absurd (omega (arith, one))

      one_high : (j : ℕ) → j < 1 → (k : ℕ) → to ≤ k → k < length entries → begins_as tag (get_or (uuid ∷ []) j []) (get_or entries k []) ≡ Greater
      one_high zero one k far there = ap (λ (u : List ℕ). begins_as tag u (get_or entries k [])) is ∙ sought.high k i far there lt
      one_high (suc j) one k far there = absurd (omega (arith, one))

  -- and what is read then
  pub walk_more : (i next start stop : ℕ) (uuid : List ℕ) (ns ms : List ℕ) (es fs : List (List ℕ)) → i < length uuids
      → uuid ≡ get_or uuids i [] → length uuid ≡ 16 → IsStrictlySortedBy (slice_cmp nat_cmp) uuids
      → AllByRecursion (λ e. length e ≡ 122) entries → to ≤ length entries
      → AreWalked passes tag uuids entries i next ns es → IsRunWithin tag uuid entries next to start stop
      → ((k : ℕ) → entry_with ms fs k ≡ kept (λ e. seen i e || is_tagged tag uuid e) (get_or entries k []))
      → AreWalked passes tag uuids entries (i + 1) stop ms fs
  walk_more i next start stop uuid ns ms es fs lt is wide ascending long within walk run are =
      let low : (k : ℕ) → k < next → begins_as tag uuid (get_or entries k []) ≡ Less =
      λ k below. ap (λ (u : List ℕ). begins_as tag u (get_or entries k [])) is ∙ walk.low k i below (omega arith) lt in
      let high : (k : ℕ) → to ≤ k → k < length entries → begins_as tag uuid (get_or entries k []) ≡ Greater =
      λ k far there. ap (λ (u : List ℕ). begins_as tag u (get_or entries k [])) is ∙ sought.high k i far there lt in
      let one_more : (e : List ℕ) → (seen i e || is_tagged tag uuid e) ≡ seen (i + 1) e =
      λ e. regroup (passes e) (is_tagged_one tag (take i uuids) e) (is_tagged tag uuid e)
      ∙ ap (λ (b : Bool). passes e || b)
      (sym (any_more (λ u. is_tagged tag u e) (take i uuids) uuid)
      ∙ ap (λ (us : List (List ℕ)). is_tagged_one tag us e)
      (ap (λ (u : List ℕ). take i uuids ++ u ∷ []) is ∙ sym (take_more uuids i [] lt))) in
      record {
        read = λ k. are k ∙ kept_same (λ e. seen i e || is_tagged tag uuid e) (seen (i + 1)) (get_or entries k []) (one_more (get_or entries k []));
        low = λ k j below le there.
            let up : slice_cmp nat_cmp uuid (get_or uuids j []) ≡ Less =
            ap (λ (u : List ℕ). slice_cmp nat_cmp u (get_or uuids j [])) is
            ∙ Less-from_sorted (slice_cmp nat_cmp) uuids i j [] ascending (omega (arith, le)) there in
            by_test _ (nat_lt k start)
            (λ yes.
            let first : k < start = grind (arith, nat_tests) in
            before_next tag uuid (get_or uuids j []) (get_or entries k []) up
            (lower (seen i) tag uuid wide entries long next to start stop run within low high walk.none k first))
            (λ no.
            let behind : start ≤ k = grind (arith, nat_tests) in
            with_next tag uuid (get_or uuids j []) (get_or entries k []) up (run.inside k [] behind below));
        none = λ k le there.
            sym (one_more (get_or entries k []))
            ∙ or_false (seen i (get_or entries k [])) (is_tagged tag uuid (get_or entries k []))
            (untagged (seen i) tag uuid wide entries long next to start stop run within low high walk.none k there
            (λ first last. omega (arith, le, last)))
            ∙ walk.none k (omega (arith, le, run.ordered, run.least)) there;
      }
    where
      regroup : (a b c : Bool) → ((a || b) || c) ≡ (a || (b || c))
      regroup a b c = grind arith

-- ---- both tags

-- the tags of entries that ascend: so many retirements, and then admissions
module _ where
  tag_two : (x y : List ℕ) → get_or x 0 0 ≡ 2 → slice_cmp nat_cmp x y ≡ Less → has_tag y ≡ true → get_or y 0 0 ≡ 2
  tag_two x y two up tag = either _ (eqb (get_or y 0 0) 1) (eqb (get_or y 0 0) 2)
      (λ one. absurd (true≢false (sym one ∙ not_before x y two up)))
      (λ is. eqb-true (get_or y 0 0) 2 is)
      tag

  is_two : (x : List ℕ) → get_or x 0 0 ≡ 2 → is_admission x ≡ true
  is_two x two = ap (λ (n : ℕ). eqb n 2) two

  is_one : (x : List ℕ) → get_or x 0 0 ≡ 1 → is_admission x ≡ false
  is_one x one = ap (λ (n : ℕ). eqb n 2) one

  abbrev one_if : List ℕ → ℕ
  one_if e = cond (not (is_admission e)) 1 0

  skip : (x : List ℕ) (xs : List (List ℕ)) → is_admission x ≡ true → retired_in (x ∷ xs) ≡ retired_in xs
  skip x xs h = let none : one_if x ≡ 0 = ap (λ (b : Bool). cond (not b) 1 0) h in omega (arith, sum_by-cons one_if x xs, none)

  count : (x : List ℕ) (xs : List (List ℕ)) → is_admission x ≡ false → retired_in (x ∷ xs) ≡ suc (retired_in xs)
  count x xs h = let one : one_if x ≡ 1 = ap (λ (b : Bool). cond (not b) 1 0) h in omega (arith, sum_by-cons one_if x xs, one)

  all_two : (x : List ℕ) (xs : List (List ℕ)) → get_or x 0 0 ≡ 2 → AllByRecursion (λ y. slice_cmp nat_cmp x y ≡ Less) xs
      → AllByRecursion (λ e. has_tag e ≡ true) xs → (retired_in xs ≡ 0) × ((k : ℕ) → k < length xs → get_or (get_or xs k []) 0 0 ≡ 2)
  all_two x [] two up tags = (refl, λ k lt. absurd (omega (arith, lt)))
  all_two x (y ∷ ys) two up tags =
      let here : get_or y 0 0 ≡ 2 = tag_two x y two up.0 tags.0 in
      let rest = all_two x ys two up.1 tags.1 in
      (skip y ys (is_two y here) ∙ rest.0, each here rest.1)
    where
      each : get_or y 0 0 ≡ 2 → ((k : ℕ) → k < length ys → get_or (get_or ys k []) 0 0 ≡ 2)
          → (k : ℕ) → k < length (y ∷ ys) → get_or (get_or (y ∷ ys) k []) 0 0 ≡ 2
      each here rest zero lt = here
      each here rest (suc k) lt = rest k (omega (arith, lt))

  pub tags_part : (xs : List (List ℕ)) → IsStrictlySortedBy (slice_cmp nat_cmp) xs → AllByRecursion (λ e. has_tag e ≡ true) xs
      → (k : ℕ) → k < length xs
      → (k < retired_in xs → get_or (get_or xs k []) 0 0 ≡ 1) × (retired_in xs ≤ k → get_or (get_or xs k []) 0 0 ≡ 2)
  unfolding IsStrictlySortedBy
  tags_part [] up tags k lt = absurd (omega (arith, lt))
  tags_part (x ∷ xs) up tags k lt = either _ (eqb (get_or x 0 0) 1) (eqb (get_or x 0 0) 2)
      (λ one.
      let is : get_or x 0 0 ≡ 1 = eqb-true (get_or x 0 0) 1 one in
      first_one k lt is (count x xs (is_one x is)) (λ j there. tags_part xs up.1 tags.1 j there))
      (λ two.
      let is : get_or x 0 0 ≡ 2 = eqb-true (get_or x 0 0) 2 two in
      let rest = all_two x xs is up.0 tags.1 in
      let none : retired_in (x ∷ xs) ≡ 0 = skip x xs (is_two x is) ∙ rest.0 in
      (λ below. absurd (omega (arith, below, none)), λ le. first_two k lt is rest.1))
      tags.0
    where
      first_one : (k : ℕ) → k < length (x ∷ xs) → get_or x 0 0 ≡ 1 → retired_in (x ∷ xs) ≡ suc (retired_in xs)
          → ((j : ℕ) → j < length xs → (j < retired_in xs → get_or (get_or xs j []) 0 0 ≡ 1) × (retired_in xs ≤ j → get_or (get_or xs j []) 0 0 ≡ 2))
          → (k < retired_in (x ∷ xs) → get_or (get_or (x ∷ xs) k []) 0 0 ≡ 1) × (retired_in (x ∷ xs) ≤ k → get_or (get_or (x ∷ xs) k []) 0 0 ≡ 2)
      first_one zero lt is more rest = (λ below. is, λ le. absurd (omega (arith, le, more)))
      first_one (suc k) lt is more rest =
          let here = rest k (omega (arith, lt)) in
          (λ below. here.0 (omega (arith, below, more)), λ le. here.1 (omega (arith, le, more)))

      first_two : (k : ℕ) → k < length (x ∷ xs) → get_or x 0 0 ≡ 2 → ((k : ℕ) → k < length xs → get_or (get_or xs k []) 0 0 ≡ 2)
          → get_or (get_or (x ∷ xs) k []) 0 0 ≡ 2
      first_two zero lt is rest = is
      first_two (suc k) lt is rest = rest k (omega (arith, lt))

begins_low : (u e : List ℕ) → get_or e 0 0 ≡ 1 → begins_as 2 u e ≡ Less
begins_low u [] one = absurd (omega (arith, one))
begins_low u (x ∷ xs) one = ap (λ (n : ℕ). ordering_then (nat_cmp n 2) (slice_cmp nat_cmp (take 16 xs) u)) one

begins_high : (u e : List ℕ) → get_or e 0 0 ≡ 2 → begins_as 1 u e ≡ Greater
begins_high u [] two = absurd (omega (arith, two))
begins_high u (x ∷ xs) two = ap (λ (n : ℕ). ordering_then (nat_cmp n 1) (slice_cmp nat_cmp (take 16 xs) u)) two

none_tagged : (t : ℕ) (us : List (List ℕ)) (e : List ℕ) → eqb (get_or e 0 0) t ≡ false → is_tagged_one t us e ≡ false
none_tagged t [] e differs = refl
none_tagged t (u ∷ us) e differs = (λ i. (differs i && is_under u e) || none_tagged t us e differs i)

each_tagged : (t : ℕ) (us : List (List ℕ)) (e : List ℕ) → eqb (get_or e 0 0) t ≡ true → is_tagged_one t us e ≡ is_under_one us e
each_tagged t [] e same = refl
each_tagged t (u ∷ us) e same = (λ i. (same i && is_under u e) || each_tagged t us e same i)

module _ (uuids entries : List (List ℕ)) (retired : ℕ) (are : HaveTags retired entries) where
  abbrev retirements : List ℕ → Bool
  retirements e = false || is_tagged_one 1 uuids e

  abbrev both : List ℕ → Bool
  both e = retirements e || is_tagged_one 2 uuids e

  pub at_tag : (k : ℕ) → k < length entries → (k < retired → get_or (get_or entries k []) 0 0 ≡ 1) × (retired ≤ k → get_or (get_or entries k []) 0 0 ≡ 2)
  at_tag k lt =
      let t = tags_part entries are.ascending are.tags k lt in
      (λ below. t.0 (omega (arith, below, are.retired_is)), λ le. t.1 (omega (arith, le, are.retired_is)))

  pub seeks_first : retired ≤ length entries → AreSought (λ _. false) 1 uuids entries 0 retired
  seeks_first within = record {
    low = λ k j lt there. absurd (omega (arith, lt));
    high = λ k j le lt there. begins_high (get_or uuids j []) (get_or entries k []) ((at_tag k lt).1 le);
    none = λ k le lt. refl;
  }

  pub seeks_second : (count : ℕ) → length entries ≡ count → retired ≤ count → AreSought retirements 2 uuids entries retired count
  seeks_second count many within = record {
    low = λ k j lt there. begins_low (get_or uuids j []) (get_or entries k []) ((at_tag k (omega (arith, lt, within, many))).0 lt);
    high = λ k j le lt there. absurd (omega (arith, le, lt, many));
    none = λ k le lt. none_tagged 1 uuids (get_or entries k []) (ap (λ (n : ℕ). eqb n 1) ((at_tag k lt).1 le));
  }

  under_both : (e : List ℕ) → has_tag e ≡ true → both e ≡ is_under_one uuids e
  under_both e tag = either _ (eqb (get_or e 0 0) 1) (eqb (get_or e 0 0) 2)
      (λ one.
      let other : eqb (get_or e 0 0) 2 ≡ false = ap (λ (n : ℕ). eqb n 2) (eqb-true (get_or e 0 0) 1 one) in
      (λ i. (false || each_tagged 1 uuids e one i) || none_tagged 2 uuids e other i) ∙ or_false (is_under_one uuids e) false refl)
      (λ two.
      let other : eqb (get_or e 0 0) 1 ≡ false = ap (λ (n : ℕ). eqb n 1) (eqb-true (get_or e 0 0) 2 two) in
      (λ i. (false || none_tagged 1 uuids e other i) || each_tagged 2 uuids e two i))
      tag

  pub all_read : (count : ℕ) (ns : List ℕ) (es : List (List ℕ)) → length entries ≡ count
      → ((k : ℕ) → entry_with ns es k ≡ kept both (get_or entries k [])) → spread count ns es ≡ only (is_under_one uuids) entries
  all_read count ns es many read =
      sym (fill_by_all (entry_with ns es) (only (is_under_one uuids) entries) count [] (length-map entries (kept (is_under_one uuids)) ∙ many)
      (λ k lt.
      let there : k < length entries = omega (arith, lt, many) in
      get_or-map (kept (is_under_one uuids)) entries k [] [] there
      ∙ kept_same (is_under_one uuids) both (get_or entries k [])
      (sym (under_both (get_or entries k []) (All-from_recursion (λ (e : List ℕ). has_tag e ≡ true) entries are.tags k [] there)))
      ∙ sym (read k)))

-- ---- as the functions say it

-- the numbers after a run
pub numbers_after : (from start stop : ℕ) (old now : List ℕ) → from ≤ start → start ≤ stop → AreNumbers from old
    → now ≡ old ++ range_with_len start (stop - start) → AreNumbers stop now
numbers_after from start stop old now low ordered numbers is =
    let end : start + (stop - start) ≡ stop = omega (arith, ordered) in
    subst (AreNumbers stop) (sym is)
    (subst (λ (n : ℕ). AreNumbers n (old ++ range_with_len start (stop - start))) end
    (numbers_more start (stop - start) old (numbers_up from start old low numbers)))

-- what is read with a run
pub under_read : (passes : List ℕ → Bool) (tag : ℕ) (uuid : List ℕ) (entries : List (List ℕ)) (from to start stop : ℕ) (ns ms : List ℕ)
    (es fs : List (List ℕ)) → length uuid ≡ 16 → AllByRecursion (λ e. length e ≡ 122) entries → to ≤ length entries
    → length ns ≡ length es → AreNumbers from ns → AreSought passes tag (uuid ∷ []) entries from to
    → IsRunWithin tag uuid entries from to start stop
    → ms ≡ ns ++ range_with_len start (stop - start) → fs ≡ es ++ take (stop - start) (drop start entries)
    → ((k : ℕ) → entry_with ns es k ≡ kept passes (get_or entries k []))
    → (k : ℕ) → entry_with ms fs k ≡ kept (λ e. passes e || is_tagged tag uuid e) (get_or entries k [])
under_read passes tag uuid entries from to start stop ns ms es fs wide long within many numbers sought run ms_is fs_is are k =
    (λ i. entry_with (ms_is i) (fs_is i) k)
    ∙ run_read passes tag uuid wide entries long from to start stop run within
    (λ j lt. sought.low j 0 lt (omega arith)) (λ j le lt. sought.high j 0 le lt (omega arith)) sought.none ns es many numbers are k

-- each entry that was read has a number
pub many_of : (read : List PagedEntry) → length (numbers_of read) ≡ length (bytes_of read)
many_of [] = refl
many_of (e ∷ read) = ap suc (many_of read)

-- after the last UUID
pub walk_ends : (passes : List ℕ → Bool) (tag : ℕ) (uuids entries : List (List ℕ)) (from to : ℕ) → AreSought passes tag uuids entries from to
    → (i next : ℕ) (ns : List ℕ) (es : List (List ℕ)) → length uuids ≤ i → AreWalked passes tag uuids entries i next ns es
    → (k : ℕ) → entry_with ns es k ≡ kept (λ e. passes e || is_tagged_one tag uuids e) (get_or entries k [])
walk_ends passes tag uuids entries from to sought i next ns es last walk k =
    walk.read k ∙ ap (λ (us : List (List ℕ)). kept (λ e. passes e || is_tagged_one tag us e) (get_or entries k [])) (take_all i uuids last)
