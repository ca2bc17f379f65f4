-- The rows that cover starts, and the addresses after them.
use Rattle.std.proofs.Common.{◌≡◌, ℕ, zero, suc, ◌+◌, ◌<◌, ◌≤◌, ◌⊎◌, true, false, nat_lt, List, [], ◌∷◌, length, map}
use Rattle.std.proofs.Common.{get_or, replicate, slice_get, Option, Some, None, refl, sym, ap, subst, ◌∙◌, inl, inr}
use Rattle.std.proofs.Common.{arith}
use Rattle.std.specs.Prelude.{◌↔◌}
use Rattle.std.specs.List.{Contains}
use Rattle.std.proofs.lemmas.Bool.{cases_Bool, cases_eq, cases_lt, ltb-true, ltb-false}
use Rattle.std.proofs.lemmas.Grind.{get_or_default_zero}
use Rattle.std.proofs.lemmas.List.{get_or-replicate, length-replicate}
use Rattle.std.proofs.lemmas.Option.{none-some, same_Some, slice_get-get_or}
use Rattle.dwarf_lines.specs.Covering.{AreCovering, CoversAt, IsCovering}
use Rattle.dwarf_lines.specs.Inner.{covers, covered, covering_with}
use Rattle.dwarf_lines.specs.declared.registers.Row.{Row}
use Rattle.dwarf_functions.specs.AddressSteps.{at_step}
use Rattle.dwarf_functions.specs.RowCover.{AreCovered, AreKnown, Covers}
use Rattle.dwarf_asked_addresses.specs.Rising.{IsCountBelow, AreRising}
use Rattle.dwarf_functions.specs.RowSteps.{AreRowSteps}
use Rattle.dwarf_lines.proofs.CoveringLemmas.{IsCovered, covering_with-is, step_end, step_none, step_some, test_false, test_true}
use Rattle.dwarf_asked_addresses.proofs.RisingLists.{rising_rest}

covered_none : (a : ℕ) (last row : Row) → (IsCovered a last row → ⊥) → covered a (Some last) row ≡ None
covered_none a last row not = elim (cases_Bool (covers a last row)) [
  | inl t ↦ absurd (not (test_true a last row t))
  | inr f ↦ rw f refl
]

covered_some : (a : ℕ) (last row : Row) → IsCovered a last row → covered a (Some last) row ≡ Some last
covered_some a last row is = elim (cases_Bool (covers a last row)) [
  | inl t ↦ rw t refl
  | inr f ↦ absurd (test_false a last row f is)
]

-- a row after which nothing is covered
pub known_same : (starts next : List ℕ) (rows : List (Option Row)) (before : Option Row) (row : Row) (left all : List Row)
    → ((i : ℕ) → i < length starts → covered (get_or starts i 0) before row ≡ None)
    → AreKnown starts next rows before (row ∷ left) all → AreKnown starts next rows (Some row) left all
known_same starts next rows before row left all none known =
    record {
      count = known.count;
      nexts = known.nexts;
      blank = known.blank;
      waits = λ i h w. sym (step_none (get_or starts i 0) before row left (none i h)) ∙ known.waits i h w;
      found = known.found;
    }

pub none_ended : (starts : List ℕ) (last row : Row) → last.end_sequence ≡ true → (i : ℕ) → i < length starts
    → covered (get_or starts i 0) (Some last) row ≡ None
none_ended starts last row ends i h = covered_none (get_or starts i 0) last row (λ is. cc (sym ends ∙ is.inside))

module _ (starts : List ℕ) (last row : Row) (first end : ℕ) (low : IsCountBelow starts last.registers.address first)
    (high : IsCountBelow starts row.registers.address end) where
  from_first : (i : ℕ) → i < length starts → IsCovered (get_or starts i 0) last row → first ≤ i
  from_first i h is = elim (cases_lt i first) [
    | inl less ↦ let b = low.below i less in let a = is.above in absurd (omega (arith, b, a))
    | inr not ↦ not
  ]

  to_end : (i : ℕ) → i < length starts → IsCovered (get_or starts i 0) last row → i < end
  to_end i h is = elim (cases_lt i end) [
    | inl less ↦ less
    | inr not ↦ let a = high.above i not h in let b = is.below in absurd (omega (arith, a, b))
  ]

  pub none_backwards : end < first → (i : ℕ) → i < length starts → covered (get_or starts i 0) (Some last) row ≡ None
  none_backwards back i h = covered_none (get_or starts i 0) last row
      (λ is. let f = from_first i h is in let t = to_end i h is in omega (arith, back, f, t))

  module _ (old new : List ℕ) (before after : List (Option Row)) (left all : List Row) (inside : last.end_sequence ≡ false)
      (known : AreKnown starts old before (Some last) (row ∷ left) all) (is : Covers first end last old new before after) where
    waits_out : (i : ℕ) → i < length starts → (i < first) ⊎ (end ≤ i) → covered (get_or starts i 0) (Some last) row ≡ None
    waits_out i h out = covered_none (get_or starts i 0) last row (λ has. elim out [
      | inl below ↦ let f = from_first i h has in omega (arith, below, f)
      | inr behind ↦ let t = to_end i h has in omega (arith, behind, t)
    ])

    side_of : (i : ℕ) → i < length starts → get_or new i 0 ≡ i → (i < first) ⊎ (end ≤ i)
    side_of i h w = elim (cases_lt i first) [
      | inl below ↦ inl below
      | inr from ↦ elim (cases_lt i end) [
        | inl within ↦ absurd (is.no_longer i from within w)
        | inr behind ↦ inr behind
      ]
    ]

    old_length : (i : ℕ) → i < length starts → i < length old
    old_length i h = let n = known.nexts in omega (arith, n, h)

    pub known_next : AreKnown starts new after (Some row) left all
    known_next =
        record {
          count = is.count ∙ known.count;
          nexts = is.nexts ∙ known.nexts;
          blank = λ i h w. elim (side_of i h w) [
            | inl below ↦ is.before_first i below ∙ known.blank i h (is.only i (old_length i h) w)
            | inr behind ↦ is.behind i behind ∙ known.blank i h (is.only i (old_length i h) w)
          ];
          waits = λ i h w. sym (step_none (get_or starts i 0) (Some last) row left (waits_out i h (side_of i h w)))
              ∙ known.waits i h (is.only i (old_length i h) w);
          found = λ i h not. elim (cases_eq (get_or old i 0) i) [
            | inl was ↦ elim (cases_lt i first) [
              | inl below ↦ absurd (not (is.still_before i (old_length i h) below was))
              | inr from ↦ elim (cases_lt i end) [
                | inl within ↦
                    let here : IsCovered (get_or starts i 0) last row = record { inside = inside; above = low.above i from h; below = high.below i within } in
                    is.covered i from within was ∙ (sym
                    (step_some (get_or starts i 0) (Some last) row last left
                    (covered_some (get_or starts i 0) last row here)) ∙ known.waits i h was)
                | inr behind ↦ absurd (not (is.still_behind i (old_length i h) behind was))
              ]
            ]
            | inr was_not ↦ is.done i (let n = known.count in omega (arith, n, h)) was_not ∙ known.found i h was_not
          ];
        }

same_state : (starts old new : List ℕ) (rows after : List (Option Row)) (before : Option Row) (left all : List Row)
    → after ≡ rows → new ≡ old → AreKnown starts old rows before left all → AreKnown starts new after before left all
same_state starts old new rows after before left all e f known =
    subst (λ (r : List (Option Row)). AreKnown starts new r before left all) (sym e)
    (subst (λ (n : List ℕ). AreKnown starts n rows before left all) (sym f) known)

-- one row more
pub known_step : (starts now old new : List ℕ) (rows after : List (Option Row)) (last row : Row) (left all : List Row) (first end : ℕ) → now ≡ starts
    → IsCountBelow starts last.registers.address first → IsCountBelow starts row.registers.address end
    → (last.end_sequence ≡ false → first ≤ end → Covers first end last old new rows after)
    → (end < first → after ≡ rows) → (end < first → new ≡ old) → (last.end_sequence ≡ true → after ≡ rows) → (last.end_sequence ≡ true → new ≡ old)
    → AreKnown starts old rows (Some last) (row ∷ left) all → AreKnown now new after (Some row) left all
known_step starts now old new rows after last row left all first end e low high covers back still none waits known =
    subst (λ (s : List ℕ). AreKnown s new after (Some row) left all) (sym e) (elim (cases_Bool last.end_sequence) [
      | inl t ↦ same_state starts old new rows after (Some row) left all (none t) (waits t)
          (known_same starts old rows (Some last) row left all (none_ended starts last row t) known)
      | inr f ↦ elim (cases_lt end first) [
        | inl b ↦ same_state starts old new rows after (Some row) left all (back b) (still b)
            (known_same starts old rows (Some last) row left all (none_backwards starts last row first end low high b)
            known)
        | inr not ↦ known_next starts last row first end low high old new rows after left all f known (covers f not)
      ]
    ])

-- ---- all addresses

pub above_first : (a start : ℕ) (starts : List ℕ) → AreRising (start ∷ starts) → a < start → (i : ℕ)
    → i < length (start ∷ starts) → a < get_or (start ∷ starts) i 0
above_first a start starts rising less zero h = less
above_first a start starts rising less (suc i) h = let r : start < get_or starts i 0 = rising 0 (suc i) 0 (omega arith) h in omega (arith, r, less)

later_above : (a start : ℕ) (starts : List ℕ) (n : ℕ) → ((j : ℕ) → n ≤ j → j < length starts → a < get_or starts j 0)
    → (j : ℕ) → n < j → j < length (start ∷ starts) → a < get_or (start ∷ starts) j 0
later_above a start starts n all zero less within = absurd (omega (arith, less))
later_above a start starts n all (suc j) less within = all j (omega (arith, less)) (omega (arith, within))

-- what is found at the last start that is not above an address
abbrev pub FoundAtStep : {A : Type 0} → (ℕ → A) → List ℕ → ℕ → A → Type 0
FoundAtStep f starts a found =
    (i : ℕ) × (i < length starts) × (get_or starts i 0 ≤ a) × ((j : ℕ) → i < j → j < length starts → a < get_or starts j 0) × (found ≡ f (get_or starts i 0))

found_more : {A : Type 0} (f : ℕ → A) (value found : A) (start : ℕ) (starts : List ℕ) (a : ℕ) → start ≤ a → value ≡ f start
    → (((i : ℕ) → i < length starts → a < get_or starts i 0) × (found ≡ value)) ⊎ FoundAtStep f starts a found → FoundAtStep f (start ∷ starts) a found
found_more f value found start starts a above here (inl x) = (0, omega arith, above, later_above a start starts 0 (λ j l h. x.0 j h), x.1 ∙ here)
found_more f value found start starts a above here (inr y) =
    (suc y.0, omega (arith, y.1), y.2, later_above a start starts (suc y.0) (λ j l h. y.3 j (omega (arith, l)) h), y.4)

pub at_step_is : {A : Type 0} (f : ℕ → A) (before : A) (starts : List ℕ) (values : List A) (a : ℕ) → length values ≡ length starts
    → ((i : ℕ) → i < length starts → slice_get values i ≡ Some (f (get_or starts i 0))) → AreRising starts
    → (((i : ℕ) → i < length starts → a < get_or starts i 0) × (at_step before starts values a ≡ before))
    ⊎ FoundAtStep f starts a (at_step before starts values a)
unfolding at_step
at_step_is f before [] values a len each rising = inl (λ i h. absurd (omega (arith, h)), refl)
at_step_is f before (start ∷ starts) [] a len each rising = absurd (omega (arith, len))
at_step_is f before (start ∷ starts) (value ∷ values) a len each rising = elim (cases_Bool (nat_lt a start)) [
  | inl less ↦ rw less (inl (above_first a start starts rising (ltb-true a start less), refl))
  | inr not ↦
      let here : value ≡ f start = same_Some value (f start) (each 0 (omega arith)) in
      rw not (inr (found_more f value (at_step value starts values a) start starts a (ltb-false a start not) here
      (at_step_is f value starts values a (omega (arith, len)) (λ i h. each (suc i) (omega (arith, h))) (rising_rest start starts rising))))
]

abbrev address : Row → ℕ
address row = row.registers.address

of_mapped : (rows : List Row) (i : ℕ) (row : Row) → slice_get rows i ≡ Some row → Contains (map address rows) (address row)
of_mapped [] i row e = absurd (none-some row e)
of_mapped (r ∷ rows) zero row e =
    let same : row ≡ r = same_Some row r (sym e) in
    subst (λ z. Contains (address r ∷ map address rows) (address z)) (sym same) (0, omega arith, refl)
of_mapped (r ∷ rows) (suc i) row e = let rest = of_mapped rows i row e in (suc rest.0, omega (arith, rest.1), rest.2)

-- no row stands after one address, up to another one
abbrev pub NoneBetween : ℕ → ℕ → List Row → Type 0
NoneBetween s a rows = (i : ℕ) (row : Row) → slice_get rows i ≡ Some row → s < address row → address row ≤ a → ⊥

covers_there : (s a : ℕ) (rows : List Row) (i : ℕ) (row : Row) → s ≤ a → NoneBetween s a rows → CoversAt rows s i row → CoversAt rows a i row
covers_there s a rows i row upto none is = elim (cases_lt a (address is.next)) [
  | inl above ↦ record {
    stands = is.stands;
    inside = is.inside;
    above = let b = is.above in omega (arith, b, upto);
    next = is.next;
    followed = is.followed;
    below = above;
  }
  | inr not ↦ absurd (none (i + 1) is.next is.followed is.below not)
]

covers_back : (s a : ℕ) (rows : List Row) (i : ℕ) (row : Row) → s ≤ a → NoneBetween s a rows → CoversAt rows a i row → CoversAt rows s i row
covers_back s a rows i row upto none is = elim (cases_lt s (address row)) [
  | inl above ↦ absurd (none i row is.stands above is.above)
  | inr not ↦ record {
    stands = is.stands;
    inside = is.inside;
    above = not;
    next = is.next;
    followed = is.followed;
    below = let b = is.below in omega (arith, b, upto);
  }
]

covering_stays : (s a : ℕ) (rows : List Row) (found : Option Row) → s ≤ a → NoneBetween s a rows → IsCovering rows s found → IsCovering rows a found
covering_stays s a rows None upto none is = λ i row covers. is i row (covers_back s a rows i row upto none covers)
covering_stays s a rows (Some row) upto none is =
    (is.0, covers_there s a rows is.0 row upto none is.1, λ before other l covers. is.2 before other l (covers_back s a rows before other upto none covers))

-- after the last row each start has the first one that covers it
pub known_all : (all : List Row) (starts next : List ℕ) (rows : List (Option Row)) (before : Option Row)
    → AreKnown starts next rows before [] all → AreCovered all starts rows
known_all all starts next rows before known = record {
  count = known.count;
  each = λ i h. elim (cases_eq (get_or next i 0) i) [
    | inl w ↦ known.blank i h w ∙ (sym (step_end (get_or starts i 0) before) ∙ known.waits i h w)
    | inr not ↦ known.found i h not
  ];
}

pub covering_of : (all : List Row) (starts : List ℕ) (rows : List (Option Row)) → AreCovered all starts rows → AreCovering all starts rows
covering_of all starts rows are = record {
  len = are.count;
  each = λ i h. subst (λ (found : Option Row). IsCovering all (get_or starts i 0) found) (sym (are.each i h)) (covering_with-is (get_or starts i 0) all);
}

-- no rows cover nothing
pub covering_none : (starts : List ℕ) (rows : List (Option Row)) → rows ≡ replicate (length starts) None → AreCovering [] starts rows
covering_none starts rows none = covering_of [] starts rows (record {
  count = ap (λ (rs : List (Option Row)). length rs) none ∙ length-replicate (length starts) None;
  each = λ i h. ap (λ (rs : List (Option Row)). get_or rs i None) none ∙ get_or-replicate (length starts) i None None h;
})

module _ (all : List Row) (starts : List ℕ) (rows : List (Option Row)) (rising : AreRising starts)
    (same : (a : ℕ) → Contains starts a ↔ Contains (map address all) a) (known : AreCovered all starts rows) where
  row_value : (i : ℕ) → i < length starts → slice_get rows i ≡ Some (covering_with (get_or starts i 0) None all)
  row_value i h = slice_get-get_or rows i None (let n = known.count in omega (arith, n, h)) ∙ ap Some (known.each i h)

  row_start : (i : ℕ) (row : Row) → slice_get all i ≡ Some row → (j : ℕ) × (j < length starts) × (get_or starts j 0 ≡ address row)
  row_start i row e =
      let there = (same (address row)).1 (of_mapped all i row e) in
      (there.0, there.1, sym (get_or_default_zero starts there.0 (address row) there.1) ∙ there.2)

  none_above : (a : ℕ) → ((i : ℕ) → i < length starts → a < get_or starts i 0) → (i : ℕ) (row : Row) → CoversAt all a i row → ⊥
  none_above a above i row is =
      let at = row_start i row is.stands in let u = above at.0 at.1 in let e = at.2 in let b = is.above in omega (arith, u, e, b)

  none_between : (a k : ℕ) → k < length starts → ((j : ℕ) → k < j → j < length starts → a < get_or starts j 0) → NoneBetween (get_or starts k 0) a all
  none_between a k within after i row e low high =
      let at = row_start i row e in let q = at.2 in
      elim (cases_lt k at.0) [
        | inl more ↦ let u = after at.0 more at.1 in omega (arith, u, q, high)
        | inr not ↦ elim (cases_lt at.0 k) [
          | inl less ↦ let r = rising at.0 k 0 less within in omega (arith, r, q, low)
          | inr even ↦
              let one : at.0 ≡ k = omega (arith, not, even) in
              let at_k : get_or starts k 0 ≡ address row = subst (λ n. get_or starts n 0 ≡ address row) one q in
              omega (arith, at_k, low)
        ]
      ]

  each_covers : (a : ℕ) → IsCovering all a (at_step None starts rows a)
  each_covers a = elim (at_step_is (λ s. covering_with s None all) None starts rows a known.count row_value rising) [
    | inl x ↦ subst (λ (found : Option Row). IsCovering all a found) (sym x.1) (λ i row is. none_above a x.0 i row is)
    | inr y ↦ subst (λ (found : Option Row). IsCovering all a found) (sym y.4)
        (covering_stays (get_or starts y.0 0) a all (covering_with (get_or starts y.0 0) None all) y.2
        (none_between a y.0 y.1 y.3) (covering_with-is (get_or starts y.0 0) all))
  ]

  pub are_row_steps : AreRowSteps all starts rows
  are_row_steps = record { rising = rising; same = same; count = known.count; each = each_covers }

-- no rows
pub no_row_steps : AreRowSteps [] [] []
unfolding at_step
no_row_steps = record {
  rising = λ i j d less within. absurd (omega (arith, within));
  same = λ a. (λ h. h, λ h. h);
  count = refl;
  each = λ a i row p. none-some row p.stands;
}
