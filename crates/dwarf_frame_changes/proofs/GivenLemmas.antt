-- Turns that were given.
use Rattle.std.proofs.Common.{AllPairs, ◌≡◌, ℕ, ◌+◌, ◌-◌, ◌<◌, ◌≤◌, ◌^◌, List, [], ◌∷◌, ◌++◌, length, get_or, map, take, Option, Some, None, refl, sym, ap}
use Rattle.std.proofs.Common.{subst, ◌∙◌, inl, inr, arith, append_assoc, length-append, ◌↔◌, All, Contains, option_and_then}
use Rattle.std.specs.Prelude.{◌↔◌}
use Rattle.std.specs.List.{All, Contains}
use Rattle.std.specs.BTreeMap as tree_map
use Rattle.std.proofs.lemmas.Bool.{cases_lt}
use Rattle.std.proofs.lemmas.List.{append-nil, get_or_default, get_or_append_left, get_or-append_right, map-append, take_all, take_more, get_or-take}
use Rattle.std.proofs.lemmas.List.{length-take-le}
use Rattle.std.proofs.lemmas.List.Elements.{All-append, All-contains, All-contains_itself, All-map, All-weaker, Contains-append_left, Contains-append_right}
use Rattle.std.proofs.lemmas.List.Elements.{All-nil, Contains-append_cases, Contains-get_or}
use Rattle.std.proofs.lemmas.Option.{none-some}
use Rattle.dwarf_source_frames.specs.AddressFrames.{AreFramesBy, AreFramesIn}
use Rattle.dwarf_source_frames.specs.DebugSections.{DebugSectionsRecord}
use Rattle.dwarf_source_frames.specs.DebugUnits.{UnitRecord}
use Rattle.dwarf_source_frames.specs.Frames.{FrameRecord}
use Rattle.dwarf_source_frames.specs.UnitAddresses.{IsUnitOf, read_unit}
use Rattle.dwarf_asked_addresses.specs.Rising.{AreRising}
use Rattle.dwarf_frame_changes.specs.Given.{Takes, TurnRecord, AreDistinct, AreTurnsBy, AreTurnsIn, AreTurnsWithUnits, HasUnit, IsTurnWithFrames, addresses}
use Rattle.dwarf_frame_changes.specs.Turns.{IsTurnBy, IsUnitTurn}
use Rattle.dwarf_frame_changes.specs.UnitSteps.{AreUnitSteps}
use Rattle.dwarf_source_frames.specs.ByUnit.{IsPlaced}
use Rattle.dwarf_frame_changes.specs.ByProgram.{AreBoundariesBy, places}
use Rattle.dwarf_source_frames.specs.ByUnit.{addresses_under}
use Rattle.dwarf_source_frames.specs.declared.unit_lists.AddressList.{AddressList}
use Rattle.dwarf_frame_changes.specs.declared.unit_by_unit.UnitBoundaries.{UnitBoundaries}
use Rattle.dwarf_frame_changes.proofs.UnitStepLemmas.{boundary_step, none_is, own_is, step_boundary, step_unit, last_step}
use Rattle.dwarf_source_frames.proofs.ByUnitLemmas.{in_one, of_one}

-- ---- numbers that are distinct

pub distinct_by : (xs : List ℕ) → AreRising xs → AreDistinct xs
distinct_by xs rising i j d less within same = omega (arith, rising i j d less within, same)

-- what holds of each number and each later one
pub pairs_append : (R : ℕ → ℕ → Type 0) (xs ys : List ℕ) → AllPairs R xs → AllPairs R ys
    → ((a b : ℕ) → Contains xs a → Contains ys b → R a b) → AllPairs R (xs ++ ys)
pairs_append R xs ys one other apart i j d less within = elim (cases_lt j (length xs)) [
  | inl jn ↦ rw (get_or_append_left xs ys d i (omega arith), get_or_append_left xs ys d j jn) (one i j d less jn)
  | inr jn ↦
      let jr : j - length xs < length ys = omega (arith, within, length-append xs ys, jn) in
      rw (get_or-append_right xs ys (length xs) j d refl jn) (elim (cases_lt i (length xs)) [
        | inl in' ↦
            rw (get_or_append_left xs ys d i in')
            (apart (get_or xs i d) (get_or ys (j - length xs) d) (Contains-get_or xs i d in') (Contains-get_or ys (j - length xs) d jr))
        | inr in' ↦ rw (get_or-append_right xs ys (length xs) i d refl in') (other (i - length xs) (j - length xs) d (omega (arith, less, in', jn)) jr)
      ])
]

pub distinct_append : (xs ys : List ℕ) → AreDistinct xs → AreDistinct ys → ((a : ℕ) → Contains xs a → Contains ys a → ⊥) → AreDistinct (xs ++ ys)
distinct_append xs ys one other apart = pairs_append (λ a b. a ≡ b → ⊥) xs ys one other (λ a b h k e. apart a h (subst (Contains ys) (sym e) k))

-- ---- what is taken, one list after another

pub takes_none : (P : List TurnRecord → Type 0) → Takes P P []
takes_none P before h = subst P (sym (append-nil before)) h

pub takes_more : (P Q R : List TurnRecord → Type 0) (xs ys : List TurnRecord) → Takes P Q xs → Takes Q R ys → Takes P R (xs ++ ys)
takes_more P Q R xs ys first then before h = subst R (append_assoc before xs ys) (then (before ++ xs) (first before h))

-- an element more of a list that is mapped
pub takes_next : (P Q R : List TurnRecord → Type 0) (f : ℕ → TurnRecord) (xs : List ℕ) (i : ℕ) → i < length xs
    → Takes P Q (map f (take i xs)) → Takes Q R (f (get_or xs i 0) ∷ []) → Takes P R (map f (take (i + 1) xs))
takes_next P Q R f xs i within first then =
    let grown : map f (take i xs) ++ f (get_or xs i 0) ∷ [] ≡ map f (take (i + 1) xs) =
    sym (ap (map f) (take_more xs i 0 within) ∙ map-append f (take i xs) (get_or xs i 0 ∷ [])) in
    subst (λ (ts : List TurnRecord). Takes P R ts) grown (takes_more P Q R (map f (take i xs)) (f (get_or xs i 0) ∷ []) first then)

pub takes_all : (P Q : List TurnRecord → Type 0) (f : ℕ → TurnRecord) (xs : List ℕ) (n : ℕ) → length xs ≤ n
    → Takes P Q (map f (take n xs)) → Takes P Q (map f xs)
takes_all P Q f xs n all h = subst (λ (ys : List ℕ). Takes P Q (map f ys)) (take_all n xs all) h

-- ---- addresses with their frames

abbrev pub turn_with : (ℕ → List FrameRecord) → ℕ → TurnRecord
turn_with frames a = record { address = a; frames = frames a }

pub addresses_with : (frames : ℕ → List FrameRecord) (xs : List ℕ) → addresses (map (turn_with frames) xs) ≡ xs
addresses_with frames [] = refl
addresses_with frames (x ∷ xs) = ap (λ (rest : List ℕ). x ∷ rest) (addresses_with frames xs)

-- each address of a list, by its index
pub by_index : (P : ℕ → Type 0) (xs : List ℕ) → ((i : ℕ) → i < length xs → P (get_or xs i 0)) → (a : ℕ) → Contains xs a → P a
by_index P xs each a (i, within, is) = subst P (get_or_default xs i 0 a within ∙ is) (each i within)

pub turns_in : (s : DebugSectionsRecord) (place : Option ℕ) (frames : ℕ → List FrameRecord) (xs : List ℕ) → AreRising xs
    → ((a : ℕ) → Contains xs a ↔ (IsUnitOf s a place × IsTurnBy s a))
    → ((a : ℕ) → Contains xs a → AreFramesBy s a (frames a)) → AreTurnsIn s place (map (turn_with frames) xs)
turns_in s place frames xs rising are found = record {
  each = All-map (λ (t : TurnRecord). IsUnitOf s t.address place × IsTurnWithFrames s t) (turn_with frames) xs
      (All-weaker (Contains xs) (λ (a : ℕ). IsUnitOf s a place × IsTurnWithFrames s (turn_with frames a))
      (λ a h. let is = (are a).0 h in (is.0, (is.1, found a h))) xs (All-contains_itself xs));
  all = λ a unit turn. subst (λ (all : List ℕ). Contains all a) (sym (addresses_with frames xs)) ((are a).1 (unit, turn));
  rising = subst (λ (all : List ℕ). AreRising all) (sym (addresses_with frames xs)) rising;
}

-- ---- without a unit that is read

pub none_read : (s : DebugSectionsRecord) (a place : ℕ) → None ≡ read_unit s place → IsUnitOf s a (Some place) → IsUnitTurn s a → ⊥
none_read s a place none is (unit, inside, h) =
    let at : inside.place ≡ place = own_is s a place inside.place inside.is_unit is in
    none-some unit (none ∙ ap (read_unit s) (sym at) ∙ sym inside.read)

pub none_at : (s : DebugSectionsRecord) (a : ℕ) → IsUnitOf s a None → IsUnitTurn s a → ⊥
none_at s a is (unit, inside, h) = none_is s a inside.place is inside.is_unit

pub no_frames : (s : DebugSectionsRecord) (a : ℕ) (place : Option ℕ) → option_and_then (read_unit s) place ≡ None → IsUnitOf s a place → AreFramesBy s a []
no_frames s a place none is = record { place = place; is_unit = is; are_frames = subst (λ (u : Option UnitRecord). AreFramesIn s u a []) (sym none) refl }

module _ (s : DebugSectionsRecord) (starts : List ℕ) (places : List (Option ℕ)) (steps : AreUnitSteps s starts places) (place : Option ℕ) (own xs : List ℕ)
    (given : (a : ℕ) → Contains own a ↔ IsPlaced starts places a place) (rising : AreRising xs)
    (fits : (a : ℕ) → Contains xs a → a < 2 ^ 64) (same : (a : ℕ) → Contains xs a ↔ Contains own a)
    (none : option_and_then (read_unit s) place ≡ None) (apart : (a : ℕ) → IsUnitOf s a place → IsUnitTurn s a → ⊥) where
  bare : (a : ℕ) → Contains xs a ↔ (IsUnitOf s a place × IsTurnBy s a)
  bare a = (
    λ h. let step = (given a).0 ((same a).0 h) in (
      step_unit s starts places steps a place step,
      (fits a h, inl (step_boundary s starts places steps a place step)),
    ),
    λ h. elim h.1.1 [
      | inl boundary ↦ (same a).1 ((given a).1 (boundary_step s starts places steps a place boundary h.0))
      | inr turn ↦ absurd (apart a h.0 turn)
    ],
  )

  pub bare_turns : AreTurnsIn s place (map (turn_with (λ a. [])) xs)
  bare_turns = turns_in s place (λ a. []) xs rising bare (λ a h. no_frames s a place none ((bare a).0 h).0)

-- ---- all

pub all_turns : (s : DebugSectionsRecord) (without with : List TurnRecord) → AreTurnsIn s None without
    → AreTurnsWithUnits s with → ((a : ℕ) → a < 2 ^ 64 → (place : Option ℕ) × IsUnitOf s a place)
    → AreTurnsBy s (without ++ with)
all_turns s without with one other units = record { each = each; all = all; once = once }
  where
    split : addresses (without ++ with) ≡ addresses without ++ addresses with
    split = map-append (λ (t : TurnRecord). t.address) without with

    each : All (IsTurnWithFrames s) (without ++ with)
    each = All-append (IsTurnWithFrames s) without with
        (All-weaker (λ (t : TurnRecord). IsUnitOf s t.address None × IsTurnWithFrames s t) (IsTurnWithFrames s) (λ t h. h.1) without one.each)
        (All-weaker (λ (t : TurnRecord). HasUnit s t.address × IsTurnWithFrames s t) (IsTurnWithFrames s) (λ t h. h.1) with other.each)

    there : (a : ℕ) (place : Option ℕ) → IsUnitOf s a place → IsTurnBy s a → Contains (addresses without ++ addresses with) a
    there a None is turn = Contains-append_left (addresses without) (addresses with) a (one.all a is turn)
    there a (Some place) is turn = Contains-append_right (addresses without) (addresses with) a (other.all a place is turn)

    all : (a : ℕ) → IsTurnBy s a → Contains (addresses (without ++ with)) a
    all a turn =
        let unit = units a turn.0 in
        subst (λ (xs : List ℕ). Contains xs a) (sym split) (there a unit.0 unit.1 turn)

    lone : All (λ (a : ℕ). IsUnitOf s a None) (addresses without)
    lone = All-map (λ (a : ℕ). IsUnitOf s a None) (λ (t : TurnRecord). t.address) without
        (All-weaker (λ (t : TurnRecord). IsUnitOf s t.address None × IsTurnWithFrames s t)
        (λ (t : TurnRecord). IsUnitOf s t.address None) (λ t h. h.0) without one.each)

    housed : All (HasUnit s) (addresses with)
    housed = All-map (HasUnit s) (λ (t : TurnRecord). t.address) with
        (All-weaker (λ (t : TurnRecord). HasUnit s t.address × IsTurnWithFrames s t) (λ (t : TurnRecord). HasUnit s t.address) (λ t h. h.0) with other.each)

    once : AreDistinct (addresses (without ++ with))
    once = subst (λ (xs : List ℕ). AreDistinct xs) (sym split)
        (distinct_append (addresses without) (addresses with) (distinct_by (addresses without) one.rising) other.once
        (λ a h k.
        let lonely = All-contains (λ (x : ℕ). IsUnitOf s x None) (addresses without) a lone h in
        let unit = All-contains (HasUnit s) (addresses with) a housed k in
        none_is s a unit.0 lonely unit.1))

-- ---- how far the units were gone over

-- the unit of an address is at one of some offsets
abbrev pub IsAmong : DebugSectionsRecord → List ℕ → ℕ → Type 0
IsAmong s done a = (place : ℕ) × Contains done place × IsUnitOf s a (Some place)

-- the turns of the units at so many first offsets were given
pub record SoFar (s : DebugSectionsRecord) (all : List ℕ) (count : ℕ) (given : List TurnRecord) : Type 0 where
  pub each : All (λ t. IsAmong s (take count all) t.address × IsTurnWithFrames s t) given
  pub every : (a place : ℕ) → Contains (take count all) place → IsUnitOf s a (Some place) → IsTurnBy s a → Contains (addresses given) a
  pub once : AreDistinct (addresses given)

pub far_start : (s : DebugSectionsRecord) (all : List ℕ) → SoFar s all 0 []
far_start s all = record {
  each = All-nil (λ (t : TurnRecord). IsAmong s [] t.address × IsTurnWithFrames s t);
  every = λ a place h is turn. let w = h.1 in absurd (omega (arith, w));
  once = λ i j d less within. absurd (omega (arith, within));
}

module _ (s : DebugSectionsRecord) (all : List ℕ) (count place : ℕ) (given new : List TurnRecord)
    (within : count < length all) (here : place ≡ get_or all count 0)
    (distinct : AreDistinct all) (far : SoFar s all count given) (are : AreTurnsIn s (Some place) new) where
  split : addresses (given ++ new) ≡ addresses given ++ addresses new
  split = map-append (λ (t : TurnRecord). t.address) given new

  grown : take (count + 1) all ≡ take count all ++ place ∷ []
  grown = subst (λ (x : ℕ). take (count + 1) all ≡ take count all ++ x ∷ []) (sym here) (take_more all count 0 within)

  in_grown : (p : ℕ) → Contains (take count all ++ place ∷ []) p → Contains (take (count + 1) all) p
  in_grown p h = subst (λ (xs : List ℕ). Contains xs p) (sym grown) h

  old : (a : ℕ) → IsAmong s (take count all) a → IsAmong s (take (count + 1) all) a
  old a h = (h.0, in_grown h.0 (Contains-append_left (take count all) (place ∷ []) h.0 h.1), h.2)

  added : (a : ℕ) → IsUnitOf s a (Some place) → IsAmong s (take (count + 1) all) a
  added a is = (place, in_grown place (Contains-append_right (take count all) (place ∷ []) place (of_one place place refl)), is)

  each_more : All (λ t. IsAmong s (take (count + 1) all) t.address × IsTurnWithFrames s t) (given ++ new)
  each_more = All-append (λ (t : TurnRecord). IsAmong s (take (count + 1) all) t.address × IsTurnWithFrames s t) given new
      (All-weaker (λ (t : TurnRecord). IsAmong s (take count all) t.address × IsTurnWithFrames s t)
      (λ (t : TurnRecord). IsAmong s (take (count + 1) all) t.address × IsTurnWithFrames s t)
      (λ t h. (old t.address h.0, h.1)) given far.each)
      (All-weaker (λ (t : TurnRecord). IsUnitOf s t.address (Some place) × IsTurnWithFrames s t)
      (λ (t : TurnRecord). IsAmong s (take (count + 1) all) t.address × IsTurnWithFrames s t)
      (λ t h. (added t.address h.0, h.1)) new are.each)

  every_more : (a own : ℕ) → Contains (take (count + 1) all) own → IsUnitOf s a (Some own) → IsTurnBy s a → Contains (addresses (given ++ new)) a
  every_more a own h is turn = subst (λ (xs : List ℕ). Contains xs a) (sym split)
      (elim (Contains-append_cases (take count all) (place ∷ []) own (subst (λ (xs : List ℕ). Contains xs own) grown h)) [
        | inl before ↦ Contains-append_left (addresses given) (addresses new) a (far.every a own before is turn)
        | inr one ↦
            let same : own ≡ place = sym (in_one place own one) in
            Contains-append_right (addresses given) (addresses new) a (are.all a (subst (λ (p : ℕ). IsUnitOf s a (Some p)) same is) turn)
      ])

  done : All (IsAmong s (take count all)) (addresses given)
  done = All-map (IsAmong s (take count all)) (λ (t : TurnRecord). t.address) given
      (All-weaker (λ (t : TurnRecord). IsAmong s (take count all) t.address × IsTurnWithFrames s t)
      (λ (t : TurnRecord). IsAmong s (take count all) t.address) (λ t h. h.0) given far.each)

  owned : All (λ (a : ℕ). IsUnitOf s a (Some place)) (addresses new)
  owned = All-map (λ (a : ℕ). IsUnitOf s a (Some place)) (λ (t : TurnRecord). t.address) new
      (All-weaker (λ (t : TurnRecord). IsUnitOf s t.address (Some place) × IsTurnWithFrames s t)
      (λ (t : TurnRecord). IsUnitOf s t.address (Some place)) (λ t h. h.0) new are.each)

  -- the offset is none of those before it
  not_before : Contains (take count all) place → ⊥
  not_before (i, inside, is) =
      let less : i < count = omega (arith, inside, length-take-le count all (omega (arith, within))) in
      let value : get_or all i 0 ≡ place = sym (get_or-take count all i 0 less) ∙ get_or_default (take count all) i 0 place inside ∙ is in
      distinct i count 0 less within (value ∙ here)

  apart_from : (a : ℕ) → Contains (addresses given) a → Contains (addresses new) a → ⊥
  apart_from a before after =
      let was = All-contains (IsAmong s (take count all)) (addresses given) a done before in
      let is = All-contains (λ (x : ℕ). IsUnitOf s x (Some place)) (addresses new) a owned after in
      let same : was.0 ≡ place = own_is s a place was.0 was.2 is in
      not_before (subst (λ (p : ℕ). Contains (take count all) p) same was.1)

  pub far_more : SoFar s all (count + 1) (given ++ new)
  far_more = record {
    each = each_more;
    every = every_more;
    once = subst (λ (xs : List ℕ). AreDistinct xs) (sym split)
        (distinct_append (addresses given) (addresses new) far.once (distinct_by (addresses new) are.rising)
        apart_from);
  }

pub far_end : (s : DebugSectionsRecord) (starts : List ℕ) (at : List (Option ℕ))
    (by_unit : tree_map.BTreeMap ℕ AddressList) (units : List UnitBoundaries) (count : ℕ) (given : List TurnRecord)
    → AreUnitSteps s starts at → ((place a : ℕ) → Contains (addresses_under by_unit place) a
    ↔ IsPlaced starts at a (Some place)) → AreBoundariesBy by_unit units
    → length (places units) ≤ count → SoFar s (places units) count given → AreTurnsWithUnits s given
far_end s starts at by_unit units count given steps under are past far =
    let all : take count (places units) ≡ places units = take_all count (places units) past in
    record {
      each = All-weaker (λ (t : TurnRecord). IsAmong s (take count (places units)) t.address × IsTurnWithFrames s t)
          (λ (t : TurnRecord). HasUnit s t.address × IsTurnWithFrames s t)
          (λ t h. ((h.0.0, h.0.2), h.1)) given far.each;
      all = λ a place is turn.
          let step = last_step s starts at a place steps turn.0 is in
          let there = are.every place (get_or starts step.0 0) ((under place (get_or starts step.0 0)).1 step.2) in
          far.every a place (subst (λ (xs : List ℕ). Contains xs place) (sym all) there) is turn;
      once = far.once;
    }
