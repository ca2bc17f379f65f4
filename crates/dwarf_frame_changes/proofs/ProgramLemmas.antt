-- Units that are taken out one after another, and put in another order.
use Rattle.std.proofs.Common.{◌≡◌, ◌≢◌, ℕ, ◌<◌, ◌==◌, ◌⊎◌, false, eqb, List, [], ◌∷◌, ◌++◌, length, get_or, Option, Some, None, refl, sym, ap, subst, ◌∙◌, inl}
use Rattle.std.proofs.Common.{inr, arith, ◌↔◌, IsPermutation, nat_cmp}
use Rattle.std.specs.List.{All, Contains}
use Rattle.std.specs.BTreeMap as tree_map
use Rattle.std.proofs.lemmas.Bool.{cases_Bool, eqb-true, eq-eqb}
use Rattle.std.proofs.lemmas.Bool.Decides.{Decides-eqb, same_from_decides}
use Rattle.std.proofs.lemmas.List.{get_or-map, map-append}
use Rattle.std.proofs.lemmas.List.Elements.{All-get_or, All-push, Contains-append_cases, Contains-append_left, Contains-append_right}
use Rattle.std.proofs.lemmas.List.Sorted.{All-permutation, Contains-permutation, IsPermutation-map}
use Rattle.std.proofs.lemmas.Map.Keys.{IsDistinct-IsPermutation}
use Rattle.std.proofs.lemmas.Map.Made.{AllPairs-from_IsDistinct, IsDistinct-from_AllPairs}
use Rattle.std.proofs.lemmas.Option.{none-some}
use Rattle.dwarf_source_frames.specs.AddressFrames.{rows_of}
use Rattle.dwarf_source_frames.specs.DebugSections.{DebugSectionsRecord}
use Rattle.dwarf_source_frames.specs.DebugUnits.{UnitRecord}
use Rattle.dwarf_source_frames.specs.UnitLines.{LinesRecord, line_unit, lines_of, program_offset}
use Rattle.dwarf_asked_addresses.specs.Rising.{AreRising}
use Rattle.dwarf_frame_changes.specs.ByProgram.{AreBoundariesBy, places, rows_at}
use Rattle.dwarf_source_frames.specs.ByUnit.{addresses_or_none, addresses_under}
use Rattle.dwarf_frame_changes.specs.Given.{AreDistinct}
use Rattle.dwarf_source_frames.specs.declared.unit_lists.AddressList.{AddressList}
use Rattle.dwarf_frame_changes.specs.declared.unit_by_unit.UnitBoundaries.{UnitBoundaries}
use Rattle.dwarf_source_frames.proofs.ByUnitLemmas.{in_one, not_in_none, of_one}
use Rattle.dwarf_frame_changes.proofs.GivenLemmas.{distinct_append}

abbrev pub at : tree_map.BTreeMap ℕ AddressList → ℕ → Option AddressList
at by_unit place = tree_map.get nat_cmp by_unit place

-- a unit with its boundaries, ascending
abbrev pub IsListed : tree_map.BTreeMap ℕ AddressList → UnitBoundaries → Type 0
IsListed before unit = AreRising unit.boundaries.items × ((a : ℕ) → Contains unit.boundaries.items a ↔ Contains (addresses_under before unit.place) a)

-- of the units that there were before, these are left now, and those are listed
pub record AreListed (before now : tree_map.BTreeMap ℕ AddressList) (all : List UnitBoundaries) : Type 0 where
  pub each : All (IsListed before) all
  pub every : (place a : ℕ) → Contains (addresses_under before place) a → Contains (places all) place ⊎ (at now place ≡ at before place)
  pub left : (place : ℕ) → (at now place ≡ None) ⊎ (at now place ≡ at before place)
  pub gone : (place : ℕ) → Contains (places all) place → at now place ≡ None
  pub once : AreDistinct (places all)

module _ (before now next : tree_map.BTreeMap ℕ AddressList) (all : List UnitBoundaries) (unit : UnitBoundaries)
    (list : AddressList) (far : AreListed before now all)
    (here : at now unit.place ≡ Some list) (gone : at next unit.place ≡ None) (others : (other : ℕ) → other ≢ unit.place → at next other ≡ at now other)
    (rising : AreRising unit.boundaries.items) (same : (a : ℕ) → Contains unit.boundaries.items a ↔ Contains list.addresses.items a) where
  split : places (all ++ unit ∷ []) ≡ places all ++ unit.place ∷ []
  split = map-append (λ (u : UnitBoundaries). u.place) all (unit ∷ [])

  apart : (other : ℕ) → other == unit.place ≡ false → other ≢ unit.place
  apart other f e = cc (eq-eqb other unit.place e, f)

  -- the unit is as it was
  as_before : at before unit.place ≡ Some list
  as_before = elim (far.left unit.place) [
    | inl none ↦ absurd (none-some list (sym none ∙ here))
    | inr is ↦ sym is ∙ here
  ]

  listed : IsListed before unit
  listed = (rising, λ a. subst (λ (xs : List ℕ). Contains unit.boundaries.items a ↔ Contains xs a) (sym (ap addresses_or_none as_before)) (same a))

  every_more : (other a : ℕ) → Contains (addresses_under before other) a → Contains (places (all ++ unit ∷ [])) other ⊎ (at next other ≡ at before other)
  every_more other a h = elim (cases_Bool (other == unit.place)) [
    | inl t ↦
        let e : unit.place ≡ other = sym (eqb-true other unit.place t) in
        inl (subst (λ (xs : List ℕ). Contains xs other) (sym split) (Contains-append_right (places all) (unit.place ∷ []) other (of_one unit.place other e)))
    | inr f ↦ elim (far.every other a h) [
      | inl there ↦ inl (subst (λ (xs : List ℕ). Contains xs other) (sym split) (Contains-append_left (places all) (unit.place ∷ []) other there))
      | inr is ↦ inr (others other (apart other f) ∙ is)
    ]
  ]

  left_more : (other : ℕ) → (at next other ≡ None) ⊎ (at next other ≡ at before other)
  left_more other = elim (cases_Bool (other == unit.place)) [
    | inl t ↦ inl (subst (λ (p : ℕ). at next p ≡ None) (sym (eqb-true other unit.place t)) gone)
    | inr f ↦ elim (far.left other) [
      | inl none ↦ inl (others other (apart other f) ∙ none)
      | inr is ↦ inr (others other (apart other f) ∙ is)
    ]
  ]

  gone_more : (other : ℕ) → Contains (places (all ++ unit ∷ [])) other → at next other ≡ None
  gone_more other h = elim (cases_Bool (other == unit.place)) [
    | inl t ↦ subst (λ (p : ℕ). at next p ≡ None) (sym (eqb-true other unit.place t)) gone
    | inr f ↦ elim (Contains-append_cases (places all) (unit.place ∷ []) other (subst (λ (xs : List ℕ). Contains xs other) split h)) [
      | inl old ↦ others other (apart other f) ∙ far.gone other old
      | inr one ↦ absurd (apart other f (sym (in_one unit.place other one)))
    ]
  ]

  once_more : AreDistinct (places (all ++ unit ∷ []))
  once_more = subst (λ (xs : List ℕ). AreDistinct xs) (sym split)
      (distinct_append (places all) (unit.place ∷ []) far.once (λ i j d less within. absurd (omega (arith, less, within)))
      (λ a old one. none-some list (sym (subst (λ (p : ℕ). at now p ≡ None) (sym (in_one unit.place a one)) (far.gone a old)) ∙ here)))

  pub listed_more : AreListed before next (all ++ unit ∷ [])
  listed_more = record {
    each = All-push (IsListed before) all unit far.each listed;
    every = every_more;
    left = left_more;
    gone = gone_more;
    once = once_more;
  }

-- no unit is left
all_listed : (before now : tree_map.BTreeMap ℕ AddressList) (all : List UnitBoundaries)
    → ((place : ℕ) → at now place ≡ None) → AreListed before now all → AreBoundariesBy before all
all_listed before now all none far = record {
  each = far.each;
  every = λ place a h. elim (far.every place a h) [
    | inl there ↦ there
    | inr same ↦
        let empty : addresses_under before place ≡ [] = ap addresses_or_none (sym same ∙ none place) in
        absurd (not_in_none a (subst (λ (xs : List ℕ). Contains xs a) empty h))
  ];
  once = far.once;
}

once_moved : (xs ys : List ℕ) → IsPermutation xs ys → AreDistinct xs → AreDistinct ys
once_moved xs ys moved once =
    AllPairs-from_IsDistinct {eq = eqb} Decides-eqb ys
    (IsDistinct-IsPermutation eqb flips xs ys moved (IsDistinct-from_AllPairs {eq = eqb} Decides-eqb xs once))
  where
    flips : (x y : ℕ) → eqb x y ≡ eqb y x
    flips x y = same_from_decides (eqb x y) (eqb y x) (Decides-eqb x y) (λ t. sym (eqb-true y x t), λ e. eq-eqb y x (sym e))

pub in_order : (before now : tree_map.BTreeMap ℕ AddressList) (all sorted : List UnitBoundaries)
    → IsPermutation all sorted → ((place : ℕ) → at now place ≡ None) → AreListed before now all
    → AreBoundariesBy before sorted
in_order before now all sorted moved none far =
    let are = all_listed before now all none far in
    let moved_places : IsPermutation (places all) (places sorted) = IsPermutation-map (λ (u : UnitBoundaries). u.place) all sorted moved in
    record {
      each = All-permutation (IsListed before) all sorted moved are.each;
      every = λ place a h. Contains-permutation (places all) (places sorted) place moved_places (are.every place a h);
      once = once_moved (places all) (places sorted) moved_places are.once;
    }

-- the unit of an index
pub listed_at : (by_unit : tree_map.BTreeMap ℕ AddressList) (all : List UnitBoundaries) (i : ℕ) (unit : UnitBoundaries)
    → AreBoundariesBy by_unit all → i < length all → unit ≡ get_or all i unit → IsListed by_unit unit
listed_at by_unit all i unit are within here = subst (λ (u : UnitBoundaries). IsListed by_unit u) (sym here)
    (All-get_or (IsListed by_unit) all i unit within are.each)

pub place_at : (all : List UnitBoundaries) (i : ℕ) (unit : UnitBoundaries) → i < length all → unit ≡ get_or all i unit → unit.place ≡ get_or (places all) i 0
place_at all i unit within here = ap (λ (u : UnitBoundaries). u.place) here ∙ sym (get_or-map (λ (u : UnitBoundaries). u.place) all i unit 0 within)

-- ---- the rows of programs

-- no program has no rows
pub no_rows_at : (s : DebugSectionsRecord) → rows_at s None ≡ []
unfolding rows_at
no_rows_at s = refl

pub rows_of_unit : (s : DebugSectionsRecord) (unit : UnitRecord) (lines : LinesRecord) (offset : Option ℕ) → lines
    ≡ lines_of s unit → offset ≡ program_offset unit unit.first.attributes.stmt_list → rows_of lines ≡ rows_at s offset
unfolding rows_at rows_of line_unit
rows_of_unit s unit lines offset is at = ap rows_of is ∙ ap (rows_at s) (sym at)
