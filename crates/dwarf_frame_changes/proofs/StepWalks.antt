-- Steps that are gone over together.
use Rattle.std.proofs.Common.{◌≡◌, ℕ, zero, suc, ◌+◌, ◌<◌, ◌≤◌, nat_lt, nat_le, true, false, List, [], ◌∷◌, length, get_or, slice_get, Option, Some, None, refl}
use Rattle.std.proofs.Common.{sym, ap, subst, ◌∙◌, inl, inr, arith, Contains}
use Rattle.std.specs.List.Sorted.{IsPartitionedBy, IsPartitionPoint}
use Rattle.std.proofs.lemmas.Bool.{cases_Bool, cases_eq, cases_lt, leb-true, leb-false, ltb-true, ltb-false}
use Rattle.std.proofs.lemmas.Bool.Decides.{nat_tests}
use Rattle.std.proofs.lemmas.List.{get_or_default}
use Rattle.std.proofs.lemmas.Option.{none-some, same_Some, slice_get-get_or, slice_get_past}
use Rattle.dwarf_functions.specs.AddressSteps.{at_step}
use Rattle.dwarf_asked_addresses.specs.Rising.{AreRising, IsCountBelow}
use Rattle.dwarf_frame_changes.specs.Between.{IsCountTo, IsNextAbove, IsNextStart, IsStart, least}

-- ---- the value at an address

-- the value of the last of so many first steps
abbrev pub value_of : {A : Type 0} → A → List A → ℕ → A
value_of before values zero = before
value_of before values (suc n) = get_or values n before

value_more : {A : Type 0} (before value : A) (values : List A) (n : ℕ) → n ≤ length values → value_of value values n ≡ get_or (value ∷ values) n before
value_more before value values zero within = refl
value_more before value values (suc n) within = get_or_default values n value before (omega (arith, within))

step_count : {A : Type 0} (before : A) (starts : List ℕ) (values : List A) (address count : ℕ) → length values ≡ length starts → IsCountTo starts address count
    → at_step before starts values address ≡ value_of before values count
unfolding at_step
step_count before [] values address zero same is = refl
step_count before [] values address (suc n) same is = let w = is.within in absurd (omega (arith, w))
step_count before (start ∷ starts) [] address count same is = absurd (omega (arith, same))
step_count before (start ∷ starts) (value ∷ values) address zero same is = elim (cases_Bool (nat_lt address start)) [
  | inl less ↦ rw less refl
  | inr not ↦ let a = is.above 0 (omega arith) (omega arith) in absurd (omega (arith, a, ltb-false address start not))
]
step_count before (start ∷ starts) (value ∷ values) address (suc n) same is = elim (cases_Bool (nat_lt address start)) [
  | inl less ↦ let u = is.upto 0 (omega arith) in absurd (omega (arith, u, ltb-true address start less))
  | inr not ↦
      let w = is.within in
      let rest : IsCountTo starts address n = record {
        within = omega (arith, w);
        upto =
            λ i h. is.upto (suc i) (omega (arith, h));
        above =
            λ i h l. is.above (suc i) (omega (arith, h)) (omega (arith, l));
      } in
      rw not (step_count value starts values address n (omega (arith, same)) rest ∙ value_more before value values n (omega (arith, w, same)))
]

pub step_none : {A : Type 0} (before : A) (starts : List ℕ) (values : List A) (address count : ℕ) → length values
    ≡ length starts → count ≡ 0 → IsCountTo starts address count
    → before ≡ at_step before starts values address
step_none before starts values address count same none is = sym (step_count before starts values address count same is ∙ ap (value_of before values) none)

pub step_some : {A : Type 0} (before found : A) (starts : List ℕ) (values : List A) (address count n : ℕ)
    → length values ≡ length starts → count ≡ n + 1 → n < length values → found ≡ get_or values n found
    → IsCountTo starts address count
    → found ≡ at_step before starts values address
step_some before found starts values address count n same some within here is =
    here ∙ get_or_default values n found before within ∙ sym (step_count before starts values address count same is ∙ ap (value_of before values) more)
  where
    more : count ≡ suc n
    more = omega (arith, some)

-- ---- counts

-- at a start itself
pub count_at_start : (starts : List ℕ) (i : ℕ) → AreRising starts → i < length starts → IsCountTo starts (get_or starts i 0) (i + 1)
count_at_start starts i rising within =
    record {
      within = omega (arith, within);
      upto = λ j h. elim (cases_eq j i) [
        | inl e ↦ let at : get_or starts j 0 ≡ get_or starts i 0 = ap (λ n. get_or starts n 0) e in omega (arith, at)
        | inr not ↦ let r = rising j i 0 (omega (arith, h, not)) within in omega (arith, r)
      ];
      above = λ j h l. rising i j 0 (omega (arith, h)) l;
    }

-- ---- the next start

-- a start above an address is not before the first of them
later_start : (starts : List ℕ) (address count a : ℕ) → IsCountTo starts address count → Contains starts a → address < a
    → (i : ℕ) × (count ≤ i) × (i < length starts) × (get_or starts i 0 ≡ a)
later_start starts address count a is (i, within, here) above =
    let at : get_or starts i 0 ≡ a = get_or_default starts i 0 a within ∙ here in
    elim (cases_lt i count) [
      | inl early ↦ let u = is.upto i early in absurd (omega (arith, u, at, above))
      | inr late ↦ (i, late, within, at)
    ]

none_after : (starts : List ℕ) (address count a : ℕ) → IsCountTo starts address count → None ≡ slice_get starts count → Contains starts a → a ≤ address
none_after starts address count a is none h = elim (cases_lt address a) [
  | inl above ↦
      let at = later_start starts address count a is h above in
      let within : count < length starts = let l = at.1 in let w = at.2 in omega (arith, l, w) in
      absurd (none-some (get_or starts count 0) (none ∙ slice_get-get_or starts count 0 within))
  | inr not ↦ not
]

within_of : (starts : List ℕ) (count next : ℕ) → Some next ≡ slice_get starts count → (count < length starts) × (get_or starts count 0 ≡ next)
within_of starts count next some = elim (cases_lt count (length starts)) [
  | inl within ↦ (within, same_Some (get_or starts count 0) next (sym (slice_get-get_or starts count 0 within) ∙ sym some))
  | inr past ↦ absurd (none-some next (sym (slice_get_past starts count past) ∙ sym some))
]

-- a number from an address on, up to the next start, has the same count
count_upto : (starts : List ℕ) (address count next : ℕ) → AreRising starts → IsCountTo starts address count
    → address < next → ((first : ℕ) → Some first ≡ slice_get starts count → next ≤ first)
    → IsCountBelow starts next count
count_upto starts address count next rising is above upto =
    record {
      within = is.within;
      below = λ i h. let u = is.upto i h in omega (arith, u, above);
      above = λ i h l.
          let within : count < length starts = omega (arith, h, l) in
          let first : next ≤ get_or starts count 0 = upto (get_or starts count 0) (sym (slice_get-get_or starts count 0 within)) in
          elim (cases_eq i count) [
            | inl e ↦ let at : get_or starts i 0 ≡ get_or starts count 0 = ap (λ n. get_or starts n 0) e in omega (arith, first, at)
            | inr not ↦ let r = rising count i 0 (omega (arith, h, not)) l in omega (arith, first, r)
          ];
    }

-- and so it is not below a number of the same count
not_before : (starts : List ℕ) (address count next a : ℕ) → IsCountTo starts address count
    → IsCountBelow starts next count → Contains starts a → address < a → next ≤ a
not_before starts address count next a to is h above =
    let at = later_start starts address count a to h above in
    let l = is.above at.0 at.1 at.2 in let e = at.3 in omega (arith, l, e)

module _ (rows links : List ℕ) (row link address : ℕ) (rows_rise : AreRising rows) (links_rise : AreRising links)
    (rows_to : IsCountTo rows address row) (links_to : IsCountTo links address link) where
  next_by : (next : ℕ) → address < next → IsStart rows links next
      → ((first : ℕ) → Some first ≡ slice_get rows row → next ≤ first) → ((first : ℕ) → Some first ≡ slice_get links link → next ≤ first)
      → IsNextStart rows links address row link (Some next)
  next_by next above is upto_row upto_link =
      let r = count_upto rows address row next rows_rise rows_to above upto_row in
      let l = count_upto links address link next links_rise links_to above upto_link in (
        above,
        is,
        λ a h past. elim h [
          | inl x ↦ not_before rows address row next a rows_to r x past
          | inr x ↦ not_before links address link next a links_to l x past
        ],
        r,
        l,
      )

  -- the next start of rows, or of links, that the other ones do not stand before
  next_row : (r : ℕ) → Some r ≡ slice_get rows row → ((first : ℕ) → Some first ≡ slice_get links link → r ≤ first)
      → IsNextStart rows links address row link (Some r)
  next_row r re upto =
      let at = within_of rows row r re in
      let above : address < r = omega (arith, rows_to.above row (omega arith) at.0, at.1) in
      next_by r above (inl (row, at.0, get_or_default rows row r 0 at.0 ∙ at.1))
      (λ first e. let s : first ≡ r = same_Some first r (e ∙ sym re) in omega (arith, s)) upto

  next_link : (l : ℕ) → Some l ≡ slice_get links link → ((first : ℕ) → Some first ≡ slice_get rows row → l ≤ first)
      → IsNextStart rows links address row link (Some l)
  next_link l le upto =
      let at = within_of links link l le in
      let above : address < l = omega (arith, links_to.above link (omega arith) at.0, at.1) in
      next_by l above (inr (link, at.0, get_or_default links link l 0 at.0 ∙ at.1)) upto
      (λ first e. let s : first ≡ l = same_Some first l (e ∙ sym le) in omega (arith, s))

  of_both : (r l : Option ℕ) → r ≡ slice_get rows row → l ≡ slice_get links link → IsNextStart rows links address row link (least r l)
  of_both None None re le = λ a h. elim h [
    | inl x ↦ none_after rows address row a rows_to re x
    | inr x ↦ none_after links address link a links_to le x
  ]
  of_both (Some r) None re le = next_row r re (λ first e. absurd (none-some first (le ∙ sym e)))
  of_both None (Some l) re le = next_link l le (λ first e. absurd (none-some first (re ∙ sym e)))
  of_both (Some r) (Some l) re le = elim (cases_Bool (nat_le r l)) [
    | inl first ↦ rw first (next_row r re (λ f e. let s : f ≡ l = same_Some f l (e ∙ sym le) in omega (arith, s, leb-true r l first)))
    | inr not ↦ rw not (next_link l le (λ f e. let s : f ≡ r = same_Some f r (e ∙ sym re) in omega (arith, s, leb-false r l not)))
  ]

  pub next_is : (r l found : Option ℕ) → r ≡ slice_get rows row → l ≡ slice_get links link → found ≡ least r l → IsNextStart rows links address row link found
  next_is r l found re le e = subst (λ (o : Option ℕ). IsNextStart rows links address row link o) (sym e) (of_both r l re le)

-- ---- the first number above an address

-- numbers that rise are parted by an address
pub parted : (starts : List ℕ) (a : ℕ) → AreRising starts → IsPartitionedBy (λ t. nat_le t a) starts
parted starts a rising i j d below within holds = elim (cases_Bool (nat_lt i j)) [
  | inl less ↦ grind (arith, nat_tests, rising i j d (ltb-true i j less) within, leb-true (get_or starts j d) a holds)
  | inr not ↦
      let same : i ≡ j = omega (arith, ltb-false i j not, below) in
      subst (λ (k : ℕ). nat_le (get_or starts k d) a ≡ true) (sym same) holds
]

pub count_of_point : (starts : List ℕ) (a n : ℕ) → n ≤ length starts
    → IsPartitionPoint (λ t. nat_le t a ≡ true) (λ t. nat_le t a ≡ false) starts n → IsCountTo starts a n
count_of_point starts a n within point =
    record {
      within = within;
      upto = λ i less. leb-true (get_or starts i 0) a (point.0 i 0 (omega arith) less);
      above = λ i from inside. let l = leb-false (get_or starts i 0) a (point.1 i 0 from inside) in omega (arith, l);
    }

pub next_above : (starts : List ℕ) (address count : ℕ) (found : Option ℕ) → AreRising starts
    → IsCountTo starts address count → found ≡ slice_get starts count → IsNextAbove starts address found
next_above starts address count None rising is e = λ a h. none_after starts address count a is e h
next_above starts address count (Some next) rising is e =
    let at = within_of starts count next e in
    let above : address < next = let u = is.above count (omega arith) at.0 in let v = at.1 in omega (arith, u, v) in
    let below = count_upto starts address count next rising is above (λ first f. let s : first ≡ next = same_Some first next (f ∙ sym e) in omega (arith, s)) in
    (above, (count, at.0, get_or_default starts count next 0 at.0 ∙ at.1), λ a h past. not_before starts address count next a is below h past)
