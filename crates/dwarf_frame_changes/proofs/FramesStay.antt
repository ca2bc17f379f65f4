-- The frames stay the same where no turn lies.
use Rattle.std.proofs.Common.{◌≡◌, ℕ, zero, suc, ◌<◌, ◌≤◌, Bool, false, nat_lt, nat_le, ◌&&◌, ◌||◌, List, [], ◌∷◌, ◌++◌, map, slice_get, Some, None, refl, sym}
use Rattle.std.proofs.Common.{ap, subst, ◌∙◌, inl, inr, ◌⊎◌, arith, flat_map, Contains, find, ◌+◌, ◌^◌, cond, Option}
use Rattle.std.specs.Option.{option_map, option_map_or, option_and_then, option_or}
use Rattle.std.proofs.lemmas.Bool.{cases_Bool, leb-true, leb-false, ltb-false}
use Rattle.std.proofs.lemmas.Bool.Decides.{nat_tests}
use Rattle.std.proofs.lemmas.List.Elements.{Contains-append_left, Contains-append_right}
use Rattle.std.proofs.lemmas.Option.{none-some, same_Some}
use Rattle.dwarf_ranges.specs.Lists.{in_ranges}
use Rattle.dwarf_ranges.specs.declared.range.CodeRange.{CodeRange}
use Rattle.dwarf_encoding.specs.Sequences.{placed}
use Rattle.dwarf_encoding.specs.Units.{unit_at}
use Rattle.dwarf_ranges.specs.Aranges.{HasAddress, IsFirstTuple, aranges_of}
use Rattle.dwarf_ranges.specs.declared.arange.Arange.{Arange}
use Rattle.dwarf_entries.specs.Entries.{EntryRecord}
use Rattle.dwarf_lines.specs.Covering.{CoversAt, IsCovering}
use Rattle.dwarf_lines.specs.declared.registers.Row.{Row}
use Rattle.dwarf_source_frames.specs.AddressFrames.{rows_of, AreFramesInUnit, AreFramesIn, AreFramesBy}
use Rattle.dwarf_source_frames.specs.DebugSections.{DebugSectionsRecord}
use Rattle.dwarf_source_frames.specs.DebugUnits.{UnitRecord}
use Rattle.dwarf_source_frames.specs.Frames.{FrameRecord}
use Rattle.dwarf_source_frames.specs.Scopes.{ScopeRecord, IsFirst, IsChainWithin, contains_at, scopes_of}
use Rattle.dwarf_source_frames.specs.UnitAddresses.{IsUnitOf, own_ranges, place_by_ranges, place_by_tuple, read_unit}
use Rattle.dwarf_source_frames.specs.UnitLines.{lines_of}
use Rattle.dwarf_source_frames.proofs.UnitAddressLemmas.{one_place}
use Rattle.dwarf_frame_changes.specs.Turns.{ends_of_range, ends_of, IsTurnBy, boundaries, ends_of_tuple, unit_turns}

-- no number of a list is such a one
pub record Avoids (Such : ℕ → Type 0) (turns : List ℕ) : Type 0 where
  pub none : (turn : ℕ) → Contains turns turn → Such turn → ⊥

-- after one address, up to another one
abbrev pub IsBetween : ℕ → ℕ → ℕ → Type 0
IsBetween a b turn = (a < turn) × (turn ≤ b)

abbrev pub IsFree : ℕ → ℕ → List ℕ → Type 0
IsFree a b turns = Avoids (IsBetween a b) turns

pub free_left : (Such : ℕ → Type 0) (xs ys : List ℕ) → Avoids Such (xs ++ ys) → Avoids Such xs
free_left Such xs ys free = record { none = λ t h. free.none t (Contains-append_left xs ys t h) }

pub free_right : (Such : ℕ → Type 0) (xs ys : List ℕ) → Avoids Such (xs ++ ys) → Avoids Such ys
free_right Such xs ys free = record { none = λ t h. free.none t (Contains-append_right xs ys t h) }

-- an element's numbers are among those of all
pub of_element : {X : Type 0} (f : X → List ℕ) (xs : List X) (i : ℕ) (x : X) (t : ℕ) → slice_get xs i ≡ Some x → Contains (f x) t → Contains (flat_map f xs) t
of_element f [] i x t e h = absurd (none-some x e)
of_element f (y ∷ ys) zero x t e h =
    let same : x ≡ y = same_Some x y (sym e) in
    Contains-append_left (f y) (flat_map f ys) t (subst (λ z. Contains (f z) t) same h)
of_element f (y ∷ ys) (suc i) x t e h = Contains-append_right (f y) (flat_map f ys) t (of_element f ys i x t e h)

pub free_element : {X : Type 0} (Such : ℕ → Type 0) (f : X → List ℕ) (xs : List X) (i : ℕ) (x : X)
    → Avoids Such (flat_map f xs) → slice_get xs i ≡ Some x → Avoids Such (f x)
free_element Such f xs i x free e = record { none = λ t h. free.none t (of_element f xs i x t e h) }

-- an element of a list that is mapped
pub of_mapped : {X : Type 0} (f : X → ℕ) (xs : List X) (i : ℕ) (x : X) → slice_get xs i ≡ Some x → Contains (map f xs) (f x)
of_mapped f [] i x e = absurd (none-some x e)
of_mapped f (y ∷ ys) zero x e =
    let same : x ≡ y = same_Some x y (sym e) in
    subst (λ z. Contains (f y ∷ map f ys) (f z)) (sym same) (0, omega arith, refl)
of_mapped f (y ∷ ys) (suc i) x e =
    let rest = of_mapped f ys i x e in
    (suc rest.0, omega (arith, rest.1), rest.2)

-- a number that lies not there is on one side
pub side : (a b t : ℕ) → (a < t → t ≤ b → ⊥) → (t ≤ a) ⊎ (b < t)
side a b t none = elim (cases_Bool (nat_le t a)) [
  | inl holds ↦ inl (leb-true t a holds)
  | inr fails ↦ elim (cases_Bool (nat_le t b)) [
    | inl holds ↦ absurd (none (omega (arith, leb-false t a fails)) (leb-true t b holds))
    | inr past ↦ inr (omega (arith, leb-false t b past))
  ]
]

-- tests against it do not tell the two addresses apart
pub same_le : (a b t : ℕ) → a < b → (a < t → t ≤ b → ⊥) → nat_le t a ≡ nat_le t b
same_le a b t less none = elim (side a b t none) [
  | inl below ↦ grind (arith, nat_tests)
  | inr above ↦ grind (arith, nat_tests)
]

pub same_lt : (a b t : ℕ) → a < b → (a < t → t ≤ b → ⊥) → nat_lt a t ≡ nat_lt b t
same_lt a b t less none = elim (side a b t none) [
  | inl below ↦ grind (arith, nat_tests)
  | inr above ↦ grind (arith, nat_tests)
]

abbrev has : ℕ → CodeRange → Bool
has a r = nat_le r.low a && nat_lt a r.high

pub same_in_range : (a b : ℕ) (r : CodeRange) → a < b → IsFree a b (ends_of_range r) → has a r ≡ has b r
same_in_range a b r less free =
    let low = same_le a b r.low less (λ x y. free.none r.low (0, omega arith, refl) (x, y)) in
    let high = same_lt a b r.high less (λ x y. free.none r.high (1, omega arith, refl) (x, y)) in
    ap (λ x. x && nat_lt a r.high) low ∙ ap (λ x. nat_le r.low b && x) high

pub same_in_ranges : (a b : ℕ) (rs : List CodeRange) → a < b → IsFree a b (ends_of rs) → in_ranges a rs ≡ in_ranges b rs
same_in_ranges a b [] less free = refl
same_in_ranges a b (r ∷ rs) less free =
    let here = same_in_range a b r less (free_left (IsBetween a b) (ends_of_range r) (ends_of rs) free) in
    let rest = same_in_ranges a b rs less (free_right (IsBetween a b) (ends_of_range r) (ends_of rs) free) in
    ap (λ x. x || in_ranges a rs) here ∙ ap (λ x. has b r || x) rest

-- ranges that begin past an address
pub none_in_ranges : (a : ℕ) (rs : List CodeRange) → Avoids (λ t. t ≤ a) (ends_of rs) → in_ranges a rs ≡ false
none_in_ranges a [] free = refl
none_in_ranges a (r ∷ rs) free =
    let here : nat_le r.low a ≡ false = leb-not r.low a (free.none r.low (0, omega arith, refl)) in
    let rest = none_in_ranges a rs (free_right (λ t. t ≤ a) (ends_of_range r) (ends_of rs) free) in
    ap (λ x. (x && nat_lt a r.high) || in_ranges a rs) here ∙ rest
  where
    leb-not : (t u : ℕ) → (t ≤ u → ⊥) → nat_le t u ≡ false
    leb-not t u not = elim (cases_Bool (nat_le t u)) [
      | inl holds ↦ absurd (not (leb-true t u holds))
      | inr fails ↦ fails
    ]

-- the first element that passes either of two tests that agree
pub same_find : {X : Type 0} (p q : X → Bool) (Such : ℕ → Type 0) (f : X → List ℕ) (xs : List X)
    → ((x : X) → Avoids Such (f x) → p x ≡ q x) → Avoids Such (flat_map f xs) → find p xs ≡ find q xs
same_find p q Such f [] agree free = refl
same_find p q Such f (x ∷ xs) agree free =
    let here = agree x (free_left Such (f x) (flat_map f xs) free) in
    let rest = same_find p q Such f xs agree (free_right Such (f x) (flat_map f xs) free) in
    rw (here, rest) refl

pub find_none : {X : Type 0} (xs : List X) → find (λ x. false) xs ≡ None
find_none [] = refl
find_none (x ∷ xs) = find_none xs

-- ---- the frames stay the same where no turn lies

-- ---- the unit

-- a tuple that ends after an address ends after those up to the next boundary
end_stays : (a b : ℕ) (t : Arange) → a < b → b < 2 ^ 64 → IsFree a b (ends_of_tuple t) → a < t.address + t.length → b < t.address + t.length
end_stays a b t less fits free has = elim (cases_Bool (nat_lt (t.address + t.length) (2 ^ 64))) [
  | inl here ↦
      let stands : Contains (ends_of_tuple t) (t.address + t.length) =
      subst (λ (x : Bool). Contains (t.address ∷ (cond x ((t.address + t.length) ∷ []) [])) (t.address + t.length)) (sym here) (1, omega arith, refl) in
      elim (side a b (t.address + t.length) (λ x y. free.none (t.address + t.length) stands (x, y))) [
        | inl below ↦ absurd (omega arith)
        | inr above ↦ above
      ]
  | inr past ↦ omega (arith, ltb-false (t.address + t.length) (2 ^ 64) past)
]

tuple_there : (a b : ℕ) (t : Arange) → a < b → b < 2 ^ 64 → IsFree a b (ends_of_tuple t) → HasAddress a t → HasAddress b t
tuple_there a b t less fits free has = (omega arith, end_stays a b t less fits free has.1)

tuple_back : (a b : ℕ) (t : Arange) → a < b → IsFree a b (ends_of_tuple t) → HasAddress b t → HasAddress a t
tuple_back a b t less free has = elim (side a b t.address (λ x y. free.none t.address (0, omega arith, refl) (x, y))) [
  | inl below ↦ (omega arith, omega arith)
  | inr above ↦ absurd (omega arith)
]

pub first_tuple_stays : (a b : ℕ) (ts : List Arange) (found : Option Arange) → a < b → b < 2 ^ 64
    → IsFree a b (flat_map ends_of_tuple ts) → IsFirstTuple ts a found → IsFirstTuple ts b found
first_tuple_stays a b ts None less fits free is = λ i t e has.
    is i t e (tuple_back a b t less (free_element (IsBetween a b) ends_of_tuple ts i t free e) has)
first_tuple_stays a b ts (Some t) less fits free is = (
  is.0,
  is.1,
  tuple_there a b t less fits (free_element (IsBetween a b) ends_of_tuple ts is.0 t free is.1) is.2,
  λ j u l e has. is.3 j u l e (tuple_back a b u less (free_element (IsBetween a b) ends_of_tuple ts j u free e) has),
)

abbrev own : DebugSectionsRecord → ℕ × List ℕ → List CodeRange
own s u = own_ranges s u.0 u.1

pub place_by_ranges_stays : (s : DebugSectionsRecord) (a b : ℕ) → a < b
    → IsFree a b (flat_map (λ u. ends_of (own s u)) (placed unit_at s.debug_info)) → place_by_ranges s a
    ≡ place_by_ranges s b
place_by_ranges_stays s a b less free =
    ap (option_map (λ (u : ℕ × List ℕ). u.0))
    (same_find (λ u. in_ranges a (own s u)) (λ u. in_ranges b (own s u)) (IsBetween a b) (λ u. ends_of (own s u)) (placed unit_at s.debug_info)
    (λ u h. same_in_ranges a b (own s u) less h) free)

pub unit_stays : (s : DebugSectionsRecord) (a b : ℕ) (place : Option ℕ) → a < b → b < 2 ^ 64 → IsFree a b (boundaries s)
    → IsUnitOf s a place → IsUnitOf s b place
unfolding boundaries
unit_stays s a b place less fits free is =
    let tuples = flat_map ends_of_tuple (aranges_of s.debug_aranges) in
    let units = flat_map (λ u. ends_of (own s u)) (placed unit_at s.debug_info) in (
      is.0,
      first_tuple_stays a b (aranges_of s.debug_aranges) is.0 less fits (free_left (IsBetween a b) tuples units free) is.1,
      is.2 ∙ ap (option_or (place_by_tuple s is.0)) (place_by_ranges_stays s a b less (free_right (IsBetween a b) tuples units free)),
    )

-- ---- the function entries

abbrev scope_ends : ScopeRecord → List ℕ
scope_ends scope = ends_of scope.ranges

contains_by : (a b i : ℕ) (scopes : List ScopeRecord) (found : Option ScopeRecord) → a < b
    → IsFree a b (flat_map scope_ends scopes) → slice_get scopes i ≡ found
    → option_map_or (λ s. in_ranges a s.ranges) found false ≡ option_map_or (λ s. in_ranges b s.ranges) found false
contains_by a b i scopes None less free e = refl
contains_by a b i scopes (Some scope) less free e = same_in_ranges a b scope.ranges less (free_element (IsBetween a b) scope_ends scopes i scope free e)

pub contains_stays : (a b : ℕ) (scopes : List ScopeRecord) (i : ℕ) → a < b → IsFree a b (flat_map scope_ends scopes)
    → contains_at a scopes i ≡ contains_at b scopes i
contains_stays a b scopes i less free = contains_by a b i scopes (slice_get scopes i) less free refl

first_stays : (a b : ℕ) (scopes : List ScopeRecord) (outer : Option ℕ) (i : ℕ)
    → ((j : ℕ) → contains_at a scopes j ≡ contains_at b scopes j) → IsFirst a scopes outer i → IsFirst b scopes outer i
first_stays a b scopes outer i same is = record {
  within = is.within;
  contains = sym (same i) ∙ is.contains;
  first = λ before l within contains. is.first before l within (same before ∙ contains);
}

chain_stays : (room a b : ℕ) (scopes : List ScopeRecord) (outer : Option ℕ) (chain : List EntryRecord)
    → ((j : ℕ) → contains_at a scopes j ≡ contains_at b scopes j)
    → IsChainWithin room a scopes outer chain → IsChainWithin room b scopes outer chain
chain_stays zero a b scopes outer chain same is = is
chain_stays (suc room) a b scopes outer [] same is = λ i within contains. is i within (same i ∙ contains)
chain_stays (suc room) a b scopes outer (e ∷ es) same is =
    (is.0, is.1, is.2, is.3, first_stays a b scopes outer is.0 same is.4, chain_stays room a b scopes (Some is.0) es same is.5)

-- ---- the row

abbrev address : Row → ℕ
address row = row.registers.address

free_row : (a b : ℕ) (rows : List Row) (i : ℕ) (row : Row) → IsFree a b (map address rows) → slice_get rows i ≡ Some row → (address row ≤ a) ⊎ (b < address row)
free_row a b rows i row free e = side a b (address row) (λ x y. free.none (address row) (of_mapped address rows i row e) (x, y))

covers_there : (a b : ℕ) (rows : List Row) (i : ℕ) (row : Row) → a < b → IsFree a b (map address rows) → CoversAt rows a i row → CoversAt rows b i row
covers_there a b rows i row less free is = elim (free_row a b rows (i + 1) is.next free is.followed) [
  | inl below ↦ absurd (omega (arith, is.below))
  | inr above ↦ record { stands = is.stands; inside = is.inside; above = omega (arith, is.above); next = is.next; followed = is.followed; below = above }
]

covers_back : (a b : ℕ) (rows : List Row) (i : ℕ) (row : Row) → a < b → IsFree a b (map address rows) → CoversAt rows b i row → CoversAt rows a i row
covers_back a b rows i row less free is = elim (free_row a b rows i row free is.stands) [
  | inl below ↦ record { stands = is.stands; inside = is.inside; above = below; next = is.next; followed = is.followed; below = omega (arith, is.below) }
  | inr above ↦ absurd (omega (arith, is.above))
]

pub covering_stays : (a b : ℕ) (rows : List Row) (found : Option Row) → a < b → IsFree a b (map address rows)
    → IsCovering rows a found → IsCovering rows b found
covering_stays a b rows None less free is = λ i row covers. is i row (covers_back a b rows i row less free covers)
covering_stays a b rows (Some row) less free is =
    (is.0, covers_there a b rows is.0 row less free is.1, λ before other l covers. is.2 before other l (covers_back a b rows before other less free covers))

-- ---- the frames

pub frames_in_unit_stay : (s : DebugSectionsRecord) (unit : UnitRecord) (a b : ℕ) (frames : List FrameRecord) → a < b
    → IsFree a b (unit_turns s unit) → AreFramesInUnit s unit a frames → AreFramesInUnit s unit b frames
unfolding unit_turns
frames_in_unit_stay s unit a b frames less free are =
    let scopes = flat_map scope_ends (scopes_of s unit) in
    let rows = map address (rows_of (lines_of s unit)) in
    let same = λ (j : ℕ). contains_stays a b (scopes_of s unit) j less (free_left (IsBetween a b) scopes rows free) in
    record {
      chain = are.chain;
      row = are.row;
      contain = chain_stays 256 a b (scopes_of s unit) None are.chain same are.contain;
      covers = covering_stays a b (rows_of (lines_of s unit)) are.row less (free_right (IsBetween a b) scopes rows free) are.covers;
      are_frames = are.are_frames;
    }

-- no boundary lies from one address on up to another one, and so the unit is the same up to each address between
module _ (s : DebugSectionsRecord) (a b : ℕ) (fits : b < 2 ^ 64) (none : (turn : ℕ) → a < turn → turn ≤ b → IsTurnBy s turn → ⊥) where
  boundaries_free : (t : ℕ) → t ≤ b → IsFree a t (boundaries s)
  boundaries_free t upto = record { none = λ turn h l. none turn l.0 (omega (arith, l.1, upto)) (omega (arith, l.1, upto), inl h) }

  unit_between : (t : ℕ) (place : Option ℕ) → a < t → t ≤ b → IsUnitOf s a place → IsUnitOf s t place
  unit_between t place less l is = unit_stays s a t place less (omega arith) (boundaries_free t l) is

  unit_free : (unit : UnitRecord) (place : ℕ) → IsUnitOf s a (Some place) → Some unit ≡ read_unit s place → IsFree a b (unit_turns s unit)
  unit_free unit place is read = record {
    none = λ turn h l.
        none turn l.0 l.1 (omega (arith, l.1), inr (unit, record { place = place; is_unit = unit_between turn (Some place) l.0 l.1 is; read = read }, h));
  }

  stay_in : (place : Option ℕ) (unit : Option UnitRecord) (frames : List FrameRecord) → a < b → IsUnitOf s a place
      → unit ≡ option_and_then (read_unit s) place → AreFramesIn s unit a frames → AreFramesIn s unit b frames
  stay_in place None frames less is e are = are
  stay_in None (Some unit) frames less is e are = absurd (none-some unit (sym e))
  stay_in (Some place) (Some unit) frames less is e are = frames_in_unit_stay s unit a b frames less (unit_free unit place is e) are

  pub frames_stay : (frames : List FrameRecord) → a < b → AreFramesBy s a frames → AreFramesBy s b frames
  frames_stay frames less are = record {
    place = are.place;
    is_unit = unit_between b are.place less (omega arith) are.is_unit;
    are_frames = stay_in are.place (option_and_then (read_unit s) are.place) frames less are.is_unit refl are.are_frames;
  }

-- ---- before the first boundary

no_tuple : (a : ℕ) (ts : List Arange) → Avoids (λ t. t ≤ a) (flat_map ends_of_tuple ts) → IsFirstTuple ts a None
no_tuple a ts free = λ i t e has. (free_element (λ n. n ≤ a) ends_of_tuple ts i t free e).none t.address (0, omega arith, refl) has.0

pub unit_none_before : (s : DebugSectionsRecord) (a : ℕ) → Avoids (λ t. t ≤ a) (boundaries s) → IsUnitOf s a None
unfolding boundaries
unit_none_before s a free =
    let Such : ℕ → Type 0 = λ t. t ≤ a in
    let tuples = flat_map ends_of_tuple (aranges_of s.debug_aranges) in
    let units = flat_map (λ u. ends_of (own s u)) (placed unit_at s.debug_info) in
    let found = same_find (λ u. in_ranges a (own s u)) (λ u. false) Such (λ u. ends_of (own s u)) (placed unit_at s.debug_info)
    (λ u h. none_in_ranges a (own s u) h) (free_right Such tuples units free)
    ∙ find_none (placed unit_at s.debug_info) in
    (None, no_tuple a (aranges_of s.debug_aranges) (free_left Such tuples units free), sym (ap (option_map (λ (u : ℕ × List ℕ). u.0)) found))

pub no_frames_before : (s : DebugSectionsRecord) (a : ℕ) (frames : List FrameRecord) → a < 2 ^ 64
    → ((turn : ℕ) → turn ≤ a → IsTurnBy s turn → ⊥) → AreFramesBy s a frames → frames ≡ []
no_frames_before s a frames fits none are =
    let free : Avoids (λ t. t ≤ a) (boundaries s) = record { none = λ turn h l. none turn l (omega (arith, l), inl h) } in
    let place = one_place s a are.place None are.is_unit (unit_none_before s a free) in
    subst (λ (p : Option ℕ). AreFramesIn s (option_and_then (read_unit s) p) a frames) place are.are_frames

pub empty_before : (s : DebugSectionsRecord) (a : ℕ) → a < 2 ^ 64 → ((turn : ℕ) → turn ≤ a → IsTurnBy s turn → ⊥) → AreFramesBy s a []
empty_before s a fits none =
    let free : Avoids (λ t. t ≤ a) (boundaries s) = record { none = λ turn h l. none turn l (omega (arith, l), inl h) } in
    record { place = None; is_unit = unit_none_before s a free; are_frames = refl }
