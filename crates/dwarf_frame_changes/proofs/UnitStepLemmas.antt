-- The unit of an address is that of the last boundary not above it.
use Rattle.std.proofs.Common.{◌≡◌, ℕ, List, get_or, Option, Some, None, subst, ◌∙◌, Contains, zero, suc, ◌<◌, ◌≤◌, ◌^◌, length, refl, ap, inl, inr, ◌⊎◌, arith}
use Rattle.std.proofs.lemmas.List.{get_or_default}
use Rattle.std.proofs.lemmas.Option.{none-some, same_Some}
use Rattle.std.proofs.lemmas.Bool.{cases_lt, cases_order}
use Rattle.dwarf_source_frames.specs.DebugSections.{DebugSectionsRecord}
use Rattle.dwarf_source_frames.specs.UnitAddresses.{IsUnitOf}
use Rattle.dwarf_source_frames.proofs.UnitAddressLemmas.{one_place}
use Rattle.dwarf_asked_addresses.specs.Rising.{AreRising}
use Rattle.dwarf_frame_changes.specs.Turns.{boundaries}
use Rattle.dwarf_frame_changes.specs.UnitSteps.{AreUnitSteps}
use Rattle.dwarf_source_frames.specs.ByUnit.{IsPlaced}
use Rattle.dwarf_frame_changes.proofs.FramesStay.{IsFree, unit_none_before, unit_stays}

pub own_is : (s : DebugSectionsRecord) (a place own : ℕ) → IsUnitOf s a (Some own) → IsUnitOf s a (Some place) → own ≡ place
own_is s a place own is other = same_Some own place (one_place s a (Some own) (Some place) is other)

pub none_is : (s : DebugSectionsRecord) (a place : ℕ) → IsUnitOf s a None → IsUnitOf s a (Some place) → ⊥
none_is s a place is other = none-some place (one_place s a None (Some place) is other)

-- ---- boundaries with their units

module _ (s : DebugSectionsRecord) (starts : List ℕ) (places : List (Option ℕ)) (steps : AreUnitSteps s starts places) (a : ℕ) (p : Option ℕ) where
  pub step_unit : IsPlaced starts places a p → IsUnitOf s a p
  step_unit (i, within, start, place) =
      let is = steps.units.each i within in
      let here = subst (λ (x : ℕ). IsUnitOf s x (get_or places i None)) start is in
      subst (λ (o : Option ℕ). IsUnitOf s a o) place here

  pub step_boundary : IsPlaced starts places a p → Contains (boundaries s) a
  step_boundary (i, within, start, place) = (steps.all a).0 (i, within, get_or_default starts i a 0 within ∙ start)

  pub boundary_step : Contains (boundaries s) a → IsUnitOf s a p → IsPlaced starts places a p
  boundary_step h is =
      let at = (steps.all a).1 h in
      let start : get_or starts at.0 0 ≡ a = get_or_default starts at.0 0 a at.1 ∙ at.2 in
      let here = subst (λ (x : ℕ). IsUnitOf s x (get_or places at.0 None)) start (steps.units.each at.0 at.1) in
      (at.0, at.1, start, one_place s a (get_or places at.0 None) p here is)

-- ---- the unit of an address is that of the last boundary not above it

-- this is the last number of a list not above an address
pub record IsLast (starts : List ℕ) (a n : ℕ) : Type 0 where
  pub within : n < length starts
  pub here : get_or starts n 0 ≤ a
  pub after : (k : ℕ) → n < k → k < length starts → a < get_or starts k 0

-- no start lies between the last one and the address
pub none_after_last : (starts : List ℕ) (a n t : ℕ) → AreRising starts → IsLast starts a n → Contains starts t → get_or starts n 0 < t → a < t
none_after_last starts a n t rising last (j, within, is) above =
    let at : get_or starts j 0 ≡ t = get_or_default starts j 0 t within ∙ is in
    elim (cases_order n j) [
      | inl same ↦ let here : get_or starts n 0 ≡ t = ap (λ k. get_or starts k 0) same ∙ at in absurd (omega (arith, here, above))
      | inr other ↦ elim other [
        | inl later ↦ let u = last.after j later within in omega (arith, u, at)
        | inr before ↦ let r = rising j n 0 before last.within in absurd (omega (arith, r, at, above))
      ]
    ]

module _ (s : DebugSectionsRecord) (starts : List ℕ) (places : List (Option ℕ)) (a : ℕ) (steps : AreUnitSteps s starts places) where
  -- no boundary lies from the last start on up to the address
  free_after : (n : ℕ) → IsLast starts a n → IsFree (get_or starts n 0) a (boundaries s)
  free_after n last = record {
    none = λ t h between. let past = none_after_last starts a n t steps.rising last ((steps.all t).1 h) between.0 in omega (arith, past, between.1);
  }

  pub unit_at_last : (n : ℕ) → a < 2 ^ 64 → IsLast starts a n → IsUnitOf s a (get_or places n None)
  unit_at_last n fits last = elim (cases_lt (get_or starts n 0) a) [
    | inl less ↦ unit_stays s (get_or starts n 0) a (get_or places n None) less fits (free_after n last) (steps.units.each n last.within)
    | inr not ↦
        let same : get_or starts n 0 ≡ a = omega (arith, not, last.here) in
        subst (λ (x : ℕ). IsUnitOf s x (get_or places n None)) same (steps.units.each n last.within)
  ]

-- among the first so many numbers, one is the last not above an address, or all are above it
last_below : (starts : List ℕ) (a n : ℕ) → n ≤ length starts
    → ((k : ℕ) → n ≤ k → k < length starts → a < get_or starts k 0) → ((m : ℕ) × IsLast starts a m)
    ⊎ ((k : ℕ) → k < length starts → a < get_or starts k 0)
last_below starts a zero within above = inr (λ k inside. above k (omega arith) inside)
last_below starts a (suc n) within above = elim (cases_lt a (get_or starts n 0)) [
  | inl past ↦ last_below starts a n (omega arith) (λ k from inside. elim (cases_lt n k) [
    | inl less ↦ above k (omega (arith, less)) inside
    | inr not ↦
        let same : n ≡ k = omega (arith, not, from) in
        subst (λ (m : ℕ). a < get_or starts m 0) same past
  ])
  | inr here ↦ inl (n, record { within = omega arith; here = here; after = λ k less inside. above k (omega arith) inside })
]

-- each address has its unit, or none
module _ (s : DebugSectionsRecord) (starts : List ℕ) (places : List (Option ℕ)) (a : ℕ) (steps : AreUnitSteps s starts places) where
  nowhere : ((k : ℕ) → k < length starts → a < get_or starts k 0) → IsUnitOf s a None
  nowhere above = unit_none_before s a (record {
    none = λ t h below.
        let at = (steps.all t).1 h in
        omega (arith, above at.0 at.1, get_or_default starts at.0 0 t at.1, at.2, below);
  })

  pub some_unit : a < 2 ^ 64 → (place : Option ℕ) × IsUnitOf s a place
  some_unit fits = elim (last_below starts a (length starts) (omega arith) (λ k from inside. absurd (omega arith))) [
    | inl last ↦ (get_or places last.0 None, unit_at_last s starts places a steps last.0 fits last.1)
    | inr above ↦ (None, nowhere above)
  ]

-- the last boundary not above an address that has a unit is one of this unit
pub last_step : (s : DebugSectionsRecord) (starts : List ℕ) (places : List (Option ℕ)) (a place : ℕ)
    → AreUnitSteps s starts places → a < 2 ^ 64 → IsUnitOf s a (Some place)
    → (n : ℕ) × IsLast starts a n × IsPlaced starts places (get_or starts n 0) (Some place)
last_step s starts places a place steps fits is = elim (last_below starts a (length starts) (omega arith) (λ k from inside. absurd (omega arith))) [
  | inl last ↦ (
    last.0,
    last.1,
    (
      last.0,
      last.1.within,
      refl,
      one_place s a (get_or places last.0 None) (Some place) (unit_at_last s starts places a steps last.0 fits last.1)
          is,
    ),
  )
  | inr above ↦ absurd (none-some place (one_place s a None (Some place) (nowhere s starts places a steps above) is))
]
