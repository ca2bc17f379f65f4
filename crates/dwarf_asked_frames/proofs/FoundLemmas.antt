-- What is found for addresses is right, and all of it is found.
use Rattle.std.proofs.Common.{◌≡◌, ◌≢◌, ℕ, ◌<◌, ◌==◌, List, [], length, get_or, Option, Some, None, refl, sym, ap, subst, ◌∙◌, inl, inr, arith, ◌⊎◌}
use Rattle.std.specs.Prelude.{◌↔◌}
use Rattle.std.specs.List.{Contains}
use Rattle.std.specs.Option.{IfSome}
use Rattle.std.specs.Ordering.{nat_cmp}
use Rattle.std.specs.BTreeMap as tree_map
use Rattle.std.proofs.lemmas.Bool.{cases_Bool, eqb-true, eq-eqb}
use Rattle.std.proofs.lemmas.Grind.{get_or_default_zero}
use Rattle.std.proofs.lemmas.List.{get_or_default}
use Rattle.dwarf_lines.specs.Covering.{IsCovering}
use Rattle.dwarf_lines.specs.declared.registers.Row.{Row}
use Rattle.dwarf_source_frames.specs.AddressFrames.{rows_of, AreFramesIn, AreFramesBy}
use Rattle.dwarf_source_frames.specs.DebugSections.{DebugSectionsRecord}
use Rattle.dwarf_source_frames.specs.DebugUnits.{UnitRecord}
use Rattle.dwarf_source_frames.specs.Frames.{FrameRecord}
use Rattle.dwarf_source_frames.specs.ByUnit.{IsPlaced, addresses_under}
use Rattle.dwarf_source_frames.specs.FoundUnits.{AreOfUnit, IsInUnit}
use Rattle.dwarf_source_frames.specs.UnitAddresses.{AreUnitsOf, IsUnitOf, read_unit}
use Rattle.dwarf_source_frames.specs.UnitLines.{LinesRecord, lines_of}
use Rattle.dwarf_source_frames.specs.declared.unit_lists.AddressList.{AddressList}
use Rattle.dwarf_functions.specs.Links.{AreFramesOfRowAndLink, IsLinkOf, LinkRecord}
use Rattle.dwarf_functions.proofs.LinkFrameLemmas.{frames_in_unit}
use Rattle.dwarf_asked_frames.specs.FoundFrames.{frames_of_list, frames_or_none, AreRight, IsFound}
use Rattle.dwarf_asked_frames.specs.declared.found.FrameList.{FrameList}

-- the frames of an address of a unit
pub frames_by : (s : DebugSectionsRecord) (unit : UnitRecord) (lines : LinesRecord) (links : List LinkRecord)
    (a number : ℕ) (row : Option Row) (frames : List FrameRecord) → IsInUnit s unit a → lines ≡ lines_of s unit
    → IsLinkOf s unit links a number → IsCovering (rows_of lines) a row → AreFramesOfRowAndLink lines links row number frames → AreFramesBy s a frames
frames_by s unit lines links a number row frames h same link covers are = record {
  place = Some h.place;
  is_unit = h.is_unit;
  are_frames = subst (λ (u : Option UnitRecord). AreFramesIn s u a frames) h.read (frames_in_unit s unit lines links a number row frames same link covers are);
}

-- what holds of each of some addresses holds of each of those among them
pub each_among : (P : ℕ → Type 0) (xs ys : List ℕ) → ((a : ℕ) → Contains ys a → Contains xs a)
    → ((i : ℕ) → i < length xs → P (get_or xs i 0)) → (i : ℕ) → i < length ys → P (get_or ys i 0)
each_among P xs ys to each i h =
    let a = get_or ys i 0 in
    let there = to a (i, h, sym (get_or_default ys i 0 a h)) in
    subst P (sym (get_or_default_zero xs there.0 a there.1) ∙ there.2) (each there.0 there.1)

-- what was found before, or nothing
found_or : (s : DebugSectionsRecord) (a : ℕ) (place : Option ℕ) (found : Option FrameList)
    → IfSome found (λ list. AreFramesBy s a (frames_of_list list)) → AreFramesBy s a []
    → AreFramesBy s a (frames_or_none found)
found_or s a place None right none = none
found_or s a place (Some list) right none = right

-- an address without a unit
pub no_place : (s : DebugSectionsRecord) (found : tree_map.BTreeMap ℕ FrameList) (a : ℕ) → AreRight s found → IsUnitOf s a None → IsFound s found a
no_place s found a right h = record {
  frames = found_or s a None (tree_map.get nat_cmp found a) (right.each a) (record { place = None; is_unit = h; are_frames = refl });
}

-- an address of a unit that cannot be read
pub no_unit : (s : DebugSectionsRecord) (found : tree_map.BTreeMap ℕ FrameList) (a place : ℕ) → AreRight s found
    → IsUnitOf s a (Some place) → None ≡ read_unit s place → IsFound s found a
no_unit s found a place right h none = record {
  frames = found_or s a (Some place) (tree_map.get nat_cmp found a) (right.each a)
      (record { place = Some place; is_unit = h; are_frames = subst (λ (u : Option UnitRecord). AreFramesIn s u a []) none refl });
}

-- frames more
module _ (s : DebugSectionsRecord) (old new : tree_map.BTreeMap ℕ FrameList) (a : ℕ) (list : FrameList) (here : tree_map.get nat_cmp new a ≡ Some list)
    (others : (b : ℕ) → b ≢ a → tree_map.get nat_cmp new b ≡ tree_map.get nat_cmp old b) (is : AreFramesBy s a (frames_of_list list)) where
  pub right_put : AreRight s old → AreRight s new
  right_put before = record {
    each = λ b. elim (cases_Bool (b == a)) [
      | inl t ↦
          let same : b ≡ a = eqb-true b a t in
          subst (λ (c : ℕ). IfSome (tree_map.get nat_cmp new c) (λ list. AreFramesBy s c (frames_of_list list))) (sym same)
          (subst (λ (o : Option FrameList). IfSome o (λ list. AreFramesBy s a (frames_of_list list))) (sym here) is)
      | inr f ↦
          let apart : b ≢ a = λ same. cc (eq-eqb b a same, f) in
          subst (λ (o : Option FrameList). IfSome o (λ list. AreFramesBy s b (frames_of_list list))) (sym (others b apart)) (before.each b)
    ];
  }

  pub found_put : IsFound s new a
  found_put = record { frames = subst (λ (o : Option FrameList). AreFramesBy s a (frames_or_none o)) (sym here) is }

  pub kept_put : (b : ℕ) → IsFound s old b → IsFound s new b
  kept_put b before = elim (cases_Bool (b == a)) [
    | inl t ↦
        let same : b ≡ a = eqb-true b a t in
        subst (λ (c : ℕ). IsFound s new c) (sym same) found_put
    | inr f ↦
        let apart : b ≢ a = λ same. cc (eq-eqb b a same, f) in
        record { frames = subst (λ (o : Option FrameList). AreFramesBy s b (frames_or_none o)) (sym (others b apart)) before.frames }
  ]

-- addresses are under the offsets of their units
abbrev pub AreUnder : List ℕ → List (Option ℕ) → tree_map.BTreeMap ℕ AddressList → Type 0
AreUnder addresses places by_unit = (place a : ℕ) → Contains (addresses_under by_unit place) a ↔ IsPlaced addresses places a (Some place)

-- so they are of these units
pub of_unit_placed : (s : DebugSectionsRecord) (addresses : List ℕ) (places : List (Option ℕ))
    (by_unit : tree_map.BTreeMap ℕ AddressList) → AreUnitsOf s addresses places → AreUnder addresses places by_unit
    → (place : ℕ) → AreOfUnit s place (addresses_under by_unit place)
of_unit_placed s addresses places by_unit units under place = record {
  each = λ i h.
      let xs = addresses_under by_unit place in
      let a = get_or xs i 0 in
      let is = (under place a).0 (i, h, sym (get_or_default xs i 0 a h)) in
      subst (λ (b : ℕ). IsUnitOf s b (Some place)) is.2 (subst (λ (o : Option ℕ). IsUnitOf s (get_or addresses is.0 0) o) is.3 (units.each is.0 is.1));
}

-- an address stands under the offset of its unit
abbrev pub IsUnder : tree_map.BTreeMap ℕ AddressList → ℕ → Option ℕ → Type 0
IsUnder by_unit a own = IfSome own (λ place. Contains (addresses_under by_unit place) a)

pub is_under : (addresses : List ℕ) (places : List (Option ℕ)) (by_unit : tree_map.BTreeMap ℕ AddressList)
    → AreUnder addresses places by_unit → (a : ℕ) (own : Option ℕ) → IsPlaced addresses places a own
    → IsUnder by_unit a own
is_under addresses places by_unit under a None is = tt
is_under addresses places by_unit under a (Some place) is = (under place a).1 is

-- each of some addresses was found
pub record AreFound (s : DebugSectionsRecord) (found : tree_map.BTreeMap ℕ FrameList) (addresses : List ℕ) : Type 0 where
  pub each : (i : ℕ) → i < length addresses → IsFound s found (get_or addresses i 0)

-- the addresses of a unit are left, or were found
abbrev pub AreDone : DebugSectionsRecord → tree_map.BTreeMap ℕ FrameList → List ℕ → List ℕ → Type 0
AreDone s found left all = (left ≡ all) ⊎ AreFound s found all

found_kept : (s : DebugSectionsRecord) (old new : tree_map.BTreeMap ℕ FrameList) (addresses : List ℕ)
    → ((a : ℕ) → IsFound s old a → IsFound s new a) → AreFound s old addresses → AreFound s new addresses
found_kept s old new addresses kept before = record { each = λ i h. kept (get_or addresses i 0) (before.each i h) }

pub done_next : (s : DebugSectionsRecord) (old new : tree_map.BTreeMap ℕ FrameList)
    (by_unit next : tree_map.BTreeMap ℕ AddressList) (place : ℕ) (taken : List ℕ)
    → ((a : ℕ) → IsFound s old a → IsFound s new a) → ((i : ℕ) → i < length taken → IsFound s new (get_or taken i 0)) → addresses_under by_unit place ≡ taken
    → ((other : ℕ) → other ≢ place → addresses_under next other ≡ addresses_under by_unit other)
    → (other : ℕ) (all : List ℕ) → AreDone s old (addresses_under by_unit other) all → AreDone s new (addresses_under next other) all
done_next s old new by_unit next place taken kept each was others other all (inr before) = inr (found_kept s old new all kept before)
done_next s old new by_unit next place taken kept each was others other all (inl before) = elim (cases_Bool (other == place)) [
  | inl t ↦
      let here : taken ≡ all = sym was ∙ ap (addresses_under by_unit) (sym (eqb-true other place t)) ∙ before in
      inr (subst (λ (xs : List ℕ). AreFound s new xs) here (record { each = each }))
  | inr f ↦
      let apart : other ≢ place = λ same. cc (eq-eqb other place same, f) in
      inl (others other apart ∙ before)
]

pub done_all : (s : DebugSectionsRecord) (found : tree_map.BTreeMap ℕ FrameList) (left all : List ℕ) → left ≡ []
    → AreDone s found left all → AreFound s found all
done_all s found left all none (inr before) = before
done_all s found left all none (inl same) = record { each = λ i h. absurd (omega (arith, ap length (sym same ∙ none), h)) }

-- each address was found
pub found_under : (s : DebugSectionsRecord) (found : tree_map.BTreeMap ℕ FrameList)
    (by_unit : tree_map.BTreeMap ℕ AddressList) (a : ℕ) (own : Option ℕ) → AreRight s found → IsUnitOf s a own
    → IsUnder by_unit a own
    → ((place i : ℕ) → i < length (addresses_under by_unit place) → IsFound s found (get_or (addresses_under by_unit place) i 0)) → IsFound s found a
found_under s found by_unit a None right is under each = no_place s found a right is
found_under s found by_unit a (Some place) right is under each =
    subst (λ (b : ℕ). IsFound s found b) (get_or_default (addresses_under by_unit place) under.0 0 a under.1 ∙ under.2) (each place under.0 under.1)

-- nothing was found
pub right_none : (s : DebugSectionsRecord) (found : tree_map.BTreeMap ℕ FrameList) → ((a : ℕ) → tree_map.get nat_cmp found a ≡ None) → AreRight s found
right_none s found none = record {
  each = λ a. subst (λ (o : Option FrameList). IfSome o (λ list. AreFramesBy s a (frames_of_list list))) (sym (none a)) tt;
}

-- the addresses of the units that are left
pub of_unit_next : (s : DebugSectionsRecord) (by_unit next : tree_map.BTreeMap ℕ AddressList) (place : ℕ)
    → ((other : ℕ) → AreOfUnit s other (addresses_under by_unit other)) → addresses_under next place ≡ []
    → ((other : ℕ) → other ≢ place → addresses_under next other ≡ addresses_under by_unit other) → (other : ℕ) → AreOfUnit s other (addresses_under next other)
of_unit_next s by_unit next place before gone others other = elim (cases_Bool (other == place)) [
  | inl t ↦
      let none : addresses_under next other ≡ [] = ap (addresses_under next) (eqb-true other place t) ∙ gone in
      subst (λ (xs : List ℕ). AreOfUnit s other xs) (sym none) (record { each = λ i h. absurd (omega (arith, h)) })
  | inr f ↦
      let apart : other ≢ place = λ same. cc (eq-eqb other place same, f) in
      subst (λ (xs : List ℕ). AreOfUnit s other xs) (sym (others other apart)) (before other)
]
