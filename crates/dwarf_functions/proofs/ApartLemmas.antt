-- Ranges of a function in the order of their lows, each taken from where those before it end.
use Rattle.std.proofs.Common.{◌≡◌, ℕ, ◌+◌, ◌<◌, ◌≤◌, ◌⊎◌, ◌&&◌, ◌||◌, Bool, true, nat_le, nat_lt, max, List, [], ◌∷◌}
use Rattle.std.proofs.Common.{◌++◌, length, get_or, take, sym, ap, subst, ◌∙◌, inl, inr, arith}
use Rattle.std.specs.List.Sorted.{IsNonDecreasingBy}
use Rattle.std.proofs.lemmas.Bool.{cases_Bool, cases_lt, false_from_ne_true, or_cases, or_left, or_right}
use Rattle.std.proofs.lemmas.List.{get_or-take, get_or_append_left, get_or_default, length-take-le, length_push, take_more}
use Rattle.std.proofs.Math.Seq.{get_or-append_seam}
use Rattle.std.proofs.lemmas.List.Folds.{list_any-append}
use Rattle.std.proofs.lemmas.List.Quantifiers.{all_pairs_push}
use Rattle.dwarf_ranges.specs.Lists.{in_ranges}
use Rattle.dwarf_ranges.specs.declared.range.CodeRange.{CodeRange}
use Rattle.dwarf_functions.specs.Apart.{AreApart}
use Rattle.dwarf_functions.proofs.RangeLemmas.{range_has, range_parts}

-- tests that hold alike are the same
pub same_test : (x y : Bool) → (x ≡ true → y ≡ true) → (y ≡ true → x ≡ true) → x ≡ y
same_test x y to from = elim (cases_Bool x) [
  | inl holds ↦ holds ∙ sym (to holds)
  | inr not ↦ not ∙ sym (false_from_ne_true y (λ is. absurd (cc (not, from is))))
]

-- ---- one more range

in_push : (a : ℕ) (ranges : List CodeRange) (r : CodeRange) → in_ranges a (ranges ++ r ∷ []) ≡ (in_ranges a ranges || in_ranges a (r ∷ []))
in_push a ranges r = list_any-append (λ (r : CodeRange). nat_le r.low a && nat_lt a r.high) ranges (r ∷ [])

pub push_cases : (a : ℕ) (ranges : List CodeRange) (r : CodeRange) → in_ranges a (ranges ++ r ∷ []) ≡ true
    → (in_ranges a ranges ≡ true) ⊎ (in_ranges a (r ∷ []) ≡ true)
push_cases a ranges r is = or_cases (in_ranges a ranges) (in_ranges a (r ∷ [])) (sym (in_push a ranges r) ∙ is)

pub push_before : (a : ℕ) (ranges : List CodeRange) (r : CodeRange) → in_ranges a ranges ≡ true → in_ranges a (ranges ++ r ∷ []) ≡ true
push_before a ranges r is = in_push a ranges r ∙ or_left (in_ranges a ranges) (in_ranges a (r ∷ [])) is

pub push_last : (a : ℕ) (ranges : List CodeRange) (r : CodeRange) → in_ranges a (r ∷ []) ≡ true → in_ranges a (ranges ++ r ∷ []) ≡ true
push_last a ranges r is = in_push a ranges r ∙ or_right (in_ranges a ranges) (in_ranges a (r ∷ [])) is

-- ---- those so far

-- ranges that are apart have the addresses of those taken so far, all up to the highest end that are not below a low
pub record AreTaken (taken apart : List CodeRange) (reached : ℕ) : Type 0 where
  pub to : (a : ℕ) → in_ranges a apart ≡ true → in_ranges a taken ≡ true
  pub from : (a : ℕ) → in_ranges a taken ≡ true → in_ranges a apart ≡ true
  pub covers : (a : ℕ) → ((k : ℕ) (d : CodeRange) → k < length taken → (get_or taken k d).low ≤ a) → a < reached → in_ranges a apart ≡ true
  pub below : (k : ℕ) (d : CodeRange) → k < length apart → (get_or apart k d).high ≤ reached
  pub are_apart : AreApart apart

pub taken_none : AreTaken [] [] 0
taken_none = record {
  to = λ a is. is;
  from = λ a is. is;
  covers = λ a low less. absurd (omega (arith, less));
  below = λ k d less. absurd (omega (arith, less));
  are_apart = λ i j d less within. absurd (omega (arith, within));
}

module _ (taken apart : List CodeRange) (reached : ℕ) (r : CodeRange) (so_far : AreTaken taken apart reached)
    (lowest : (k : ℕ) (d : CodeRange) → k < length taken → (get_or taken k d).low ≤ r.low) where
  abbrev part : CodeRange
  part = record { low = max r.low reached; high = r.high }

  part_parts : (a : ℕ) → in_ranges a (part ∷ []) ≡ true → (r.low ≤ a) × (a < r.high)
  part_parts a is =
      let p = range_parts a part is in
      let low : max r.low reached ≤ a = p.0 in (omega (arith, low), p.1)

  -- an address of it that is not below the end of those before it
  in_part : (a : ℕ) → r.low ≤ a → reached ≤ a → a < r.high → in_ranges a (part ∷ []) ≡ true
  in_part a low from high = let above : max r.low reached ≤ a = omega (arith, low, from) in range_has a part above high

  -- an address of it
  in_range : (a : ℕ) → r.low ≤ a → a < r.high → in_ranges a (apart ++ part ∷ []) ≡ true
  in_range a low high = elim (cases_lt a reached) [
    | inl less ↦ push_before a apart part (so_far.covers a (λ k d h. let l = lowest k d h in omega (arith, l, low)) less)
    | inr from ↦ push_last a apart part (in_part a low from high)
  ]

  low_before : (a : ℕ) → ((k : ℕ) (d : CodeRange) → k < length (taken ++ r ∷ [])
      → (get_or (taken ++ r ∷ []) k d).low ≤ a) → (k : ℕ) (d : CodeRange) → k < length taken
      → (get_or taken k d).low ≤ a
  low_before a low k d h =
      let n = length_push taken r in
      let is = low k d (omega (arith, n, h)) in
      subst (λ (x : CodeRange). x.low ≤ a) (get_or_append_left taken (r ∷ []) d k h) is

  low_last : (a : ℕ) → ((k : ℕ) (d : CodeRange) → k < length (taken ++ r ∷ []) → (get_or (taken ++ r ∷ []) k d).low ≤ a) → r.low ≤ a
  low_last a low =
      let n = length_push taken r in
      subst (λ (x : CodeRange). x.low ≤ a) (get_or-append_seam taken r [] r) (low (length taken) r (omega (arith, n)))

  below_more : (k : ℕ) (d : CodeRange) → k < length (apart ++ part ∷ []) → (get_or (apart ++ part ∷ []) k d).high ≤ max r.high reached
  below_more k d h =
      let n = length_push apart part in
      elim (cases_lt k (length apart)) [
        | inl less ↦
            let is = so_far.below k d less in
            subst (λ (x : CodeRange). x.high ≤ max r.high reached) (sym (get_or_append_left apart (part ∷ []) d k less)) (omega (arith, is))
        | inr from ↦
            let last : length apart ≡ k = omega (arith, n, h, from) in
            subst (λ i. (get_or (apart ++ part ∷ []) i d).high ≤ max r.high reached) last
            (subst (λ (x : CodeRange). x.high ≤ max r.high reached) (sym (get_or-append_seam apart part [] d)) (omega arith))
      ]

  pub taken_more : AreTaken (taken ++ r ∷ []) (apart ++ part ∷ []) (max r.high reached)
  taken_more = record {
    to = λ a is. elim (push_cases a apart part is) [
      | inl before ↦ push_before a taken r (so_far.to a before)
      | inr last ↦ let p = part_parts a last in push_last a taken r (range_has a r p.0 p.1)
    ];
    from = λ a is. elim (push_cases a taken r is) [
      | inl before ↦ push_before a apart part (so_far.from a before)
      | inr last ↦ let p = range_parts a r last in in_range a p.0 p.1
    ];
    covers = λ a low less. elim (cases_lt a reached) [
      | inl under ↦ push_before a apart part (so_far.covers a (low_before a low) under)
      | inr from ↦ in_range a (low_last a low) (omega (arith, less, from))
    ];
    below = below_more;
    are_apart = all_pairs_push (λ (x y : CodeRange). x.high ≤ y.low) apart part so_far.are_apart
        (λ k d h. let b = so_far.below k d h in let first : (get_or apart k d).high ≤ max r.low reached =
        omega (arith, b) in first);
  }

-- the step of a loop over ranges in the order of their lows
pub taken_next : (sorted apart now : List CodeRange) (i reached low next : ℕ) (d : CodeRange)
    → IsNonDecreasingBy (λ (r : CodeRange). r.low) sorted → i < length sorted → AreTaken (take i sorted) apart reached
    → low ≡ max (get_or sorted i d).low reached → next ≡ max (get_or sorted i d).high reached → now ≡ apart
    ++ record { low = low; high = (get_or sorted i d).high } ∷ [] → AreTaken (take (i + 1) sorted) now next
taken_next sorted apart now i reached low next d rising within so_far low_is next_is now_is =
    let r : CodeRange = get_or sorted i d in
    let count : length (take i sorted) ≡ i = length-take-le i sorted (omega (arith, within)) in
    let lowest : (k : ℕ) (e : CodeRange) → k < length (take i sorted) → (get_or (take i sorted) k e).low ≤ r.low =
    λ k e h.
    let less : k < i = omega (arith, h, count) in
    let inside : k < length sorted = omega (arith, less, within) in
    subst (λ (x : CodeRange). x.low ≤ r.low) (sym (get_or-take i sorted k e less ∙ get_or_default sorted k e d inside))
    (rising k i d (omega (arith, less)) within) in
    let more = taken_more (take i sorted) apart reached r so_far lowest in
    let is : now ≡ apart ++ record { low = max r.low reached; high = r.high } ∷ [] =
    now_is ∙ ap (λ n. apart ++ record { low = n; high = r.high } ∷ []) low_is in
    subst (λ n. AreTaken (take (i + 1) sorted) now n) (sym next_is)
    (subst (λ (xs : List CodeRange). AreTaken xs now (max r.high reached)) (sym (take_more sorted i d within))
    (subst (λ (xs : List CodeRange). AreTaken (take i sorted ++ r ∷ []) xs (max r.high reached)) (sym is) more))
