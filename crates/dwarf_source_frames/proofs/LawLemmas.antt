-- An address has one list of frames.
use Rattle.std.proofs.Common.{◌≡◌, ℕ, zero, suc, ◌<◌, nat_lt, List, [], ◌∷◌, Option, Some, None, slice_get, refl, sym}
use Rattle.std.proofs.Common.{ap, subst, ◌∙◌, ◌^◌, inl, inr, arith, ◌⊎◌, reverse}
use Rattle.std.specs.Prelude.{All, MatchOption}
use Rattle.std.specs.Option.{option_and_then, option_or}
use Rattle.std.proofs.lemmas.Bool.{cases_Bool, ltb-true, ltb-false}
use Rattle.std.proofs.lemmas.List.Elements.{All-cons, All-nil}
use Rattle.std.proofs.lemmas.Option.{none-some, same_Some}
use Rattle.dwarf_encoding.specs.Sequences.{placed_from, placed_within}
use Rattle.dwarf_encoding.specs.Units.{unit_of, IsUnitWith}
use Rattle.dwarf_entries.specs.Entries.{EntryRecord}
use Rattle.dwarf_lines.specs.Paths.{PathRecord}
use Rattle.dwarf_lines.specs.declared.registers.Row.{Row}
use Rattle.dwarf_source_frames.specs.AddressFrames.{rows_of, AreFramesInUnit, AreFramesIn, AreFramesBy}
use Rattle.dwarf_source_frames.specs.DebugSections.{DebugSectionsRecord}
use Rattle.dwarf_source_frames.specs.DebugUnits.{UnitRecord, UnitEntryRecord, unit_of_bytes, entry_with, IsEntryAt}
use Rattle.dwarf_source_frames.specs.Frames.{FrameRecord, IsFrame, AreFramesFrom, AreFramesOfChain, location_of_row, location_of_call}
use Rattle.dwarf_source_frames.specs.Frames.{constant_or_zero, frame_of_row, known_number}
use Rattle.dwarf_source_frames.specs.Names.{linkage_name, origin_place, text_in, IsOrigin, IsNameWithin}
use Rattle.dwarf_source_frames.specs.Scopes.{ScopeRecord, IsFirst, IsChainWithin, calls_of, scopes_of}
use Rattle.dwarf_source_frames.specs.UnitAddresses.{read_unit}
use Rattle.dwarf_source_frames.specs.UnitLines.{LinesRecord, lines_of}
use Rattle.dwarf_source_frames.specs.declared.frame.SourceLocation.{SourceLocation}
use Rattle.dwarf_source_frames.proofs.UnitAddressLemmas.{one_place}
use Rattle.dwarf_lines.proofs.RunLemmas.{one_covering}

-- of two places one is first, or they are one
order : (a b : ℕ) → (a < b) ⊎ ((b < a) ⊎ (a ≡ b))
order a b = elim (cases_Bool (nat_lt a b)) [
  | inl t ↦ inl (ltb-true a b t)
  | inr f ↦ elim (cases_Bool (nat_lt b a)) [
    | inl t ↦ inr (inl (ltb-true b a t))
    | inr g ↦ inr (inr (omega (arith, ltb-false a b f, ltb-false b a g)))
  ]
]

-- one chain
one_first : (a : ℕ) (scopes : List ScopeRecord) (outer : Option ℕ) (i j : ℕ) → IsFirst a scopes outer i → IsFirst a scopes outer j → i ≡ j
one_first a scopes outer i j p q = elim (order i j) [
  | inl less ↦ absurd (q.first i less p.within p.contains)
  | inr more ↦ elim more [
    | inl less ↦ absurd (p.first j less q.within q.contains)
    | inr same ↦ same
  ]
]

one_chain : (room a : ℕ) (scopes : List ScopeRecord) (outer : Option ℕ) (one other : List EntryRecord)
    → IsChainWithin room a scopes outer one → IsChainWithin room a scopes outer other → one ≡ other
one_chain zero a scopes outer one other p q = p ∙ sym q
one_chain (suc room) a scopes outer [] [] p q = refl
one_chain (suc room) a scopes outer [] (e ∷ es) p q = absurd (p q.0 q.4.within q.4.contains)
one_chain (suc room) a scopes outer (e ∷ es) [] p q = absurd (q p.0 p.4.within p.4.contains)
one_chain (suc room) a scopes outer (e ∷ es) (f ∷ fs) p q =
    let same : p.0 ≡ q.0 = one_first a scopes outer p.0 q.0 p.4 q.4 in
    let scope : p.1 ≡ q.1 = same_Some p.1 q.1 (sym p.2 ∙ ap (slice_get scopes) same ∙ q.2) in
    let entry : e ≡ f = p.3 ∙ ap (λ (s : ScopeRecord). s.entry) scope ∙ sym q.3 in
    let rest : es ≡ fs = one_chain room a scopes (Some p.0) es fs p.5 (subst (λ (i : ℕ). IsChainWithin room a scopes (Some i) fs) (sym same) q.5) in
    ap (λ (x : EntryRecord). x ∷ es) entry ∙ ap (λ (xs : List EntryRecord). f ∷ xs) rest

-- one unit
one_unit_with : (section : List ℕ) (offset : ℕ) (one other : Option (ℕ × List ℕ)) → IsUnitWith section offset one
    → IsUnitWith section offset other → one ≡ other
one_unit_with section offset None None p q = refl
one_unit_with section offset None (Some x) p q = absurd (p x.0 x.1 q.0 q.1)
one_unit_with section offset (Some x) None p q = absurd (q x.0 x.1 p.0 p.1)
one_unit_with section offset (Some x) (Some y) p q = elim (order x.0 y.0) [
  | inl less ↦ absurd (none-some y.1 (sym (p.0.last y.0 less q.0.before) ∙ q.0.stands))
  | inr more ↦ elim more [
    | inl less ↦ absurd (none-some x.1 (sym (q.0.last x.0 less p.0.before) ∙ p.0.stands))
    | inr same ↦
        let unit : x.1 ≡ y.1 = same_Some x.1 y.1 (sym p.0.stands ∙ ap (unit_of section) same ∙ q.0.stands) in
        let with_place : ℕ → Option (ℕ × List ℕ) = λ n. Some (n, x.1) in
        let with_unit : List ℕ → Option (ℕ × List ℕ) = λ u. Some (y.0, u) in
        ap with_place same ∙ ap with_unit unit
  ]
]

-- one name
one_entry_at : (room : ℕ) (s : DebugSectionsRecord) (place : ℕ) (one other : Option (UnitEntryRecord × ℕ)) → IsEntryAt room s place one
    → IsEntryAt room s place other → one ≡ other
one_entry_at room s place one other p q =
    p.2 ∙ ap (entry_with room s.debug_abbrev place) (one_unit_with s.debug_info place p.0 q.0 p.1 q.1) ∙ sym q.2

one_origin_by : (room : ℕ) (s : DebugSectionsRecord) (o : Option ℕ) (one other : Option (UnitEntryRecord × ℕ))
    → MatchOption o (one ≡ None) (λ place. IsEntryAt room s place one)
    → MatchOption o (other ≡ None) (λ place. IsEntryAt room s place other) → one ≡ other
one_origin_by room s None one other p q = p ∙ sym q
one_origin_by room s (Some place) one other p q = one_entry_at room s place one other p q

one_origin : (room : ℕ) (s : DebugSectionsRecord) (e : UnitEntryRecord) (one other : Option (UnitEntryRecord × ℕ)) → IsOrigin room s e one
    → IsOrigin room s e other → one ≡ other
one_origin room s e one other p q = one_origin_by room s (origin_place e) one other p q

-- the name of an entry that leads to another one, or to none
abbrev IsNameAfter : ℕ → DebugSectionsRecord → Option (List ℕ) → Option (UnitEntryRecord × ℕ) → Option (List ℕ) → Type 0
IsNameAfter count s name o found = MatchOption o (found ≡ name) (λ x. IsNameWithin count x.1 s x.0 name found)

one_name_after : (count : ℕ) (s : DebugSectionsRecord) (name : Option (List ℕ)) (o : Option (UnitEntryRecord × ℕ)) (one other : Option (List ℕ))
    → ((x : UnitEntryRecord × ℕ) → IsNameWithin count x.1 s x.0 name one → IsNameWithin count x.1 s x.0 name other → one ≡ other)
    → IsNameAfter count s name o one → IsNameAfter count s name o other → one ≡ other
one_name_after count s name None one other same p q = p ∙ sym q
one_name_after count s name (Some x) one other same p q = same x p q

-- the name of an entry that has this linkage name, or none
abbrev IsNameOf : ℕ → ℕ → DebugSectionsRecord → UnitEntryRecord → Option (List ℕ) → Option (List ℕ) → Option (List ℕ) → Type 0
IsNameOf count room s e name linkage found =
    MatchOption linkage ((origin : Option (UnitEntryRecord × ℕ)) × IsOrigin room s e origin × IsNameAfter count s name origin found)
    (λ l. found ≡ Some l)

one_name_of : (count room : ℕ) (s : DebugSectionsRecord) (e : UnitEntryRecord) (name linkage one other : Option (List ℕ))
    → ((x : UnitEntryRecord × ℕ) → IsNameWithin count x.1 s x.0 name one → IsNameWithin count x.1 s x.0 name other → one ≡ other)
    → IsNameOf count room s e name linkage one → IsNameOf count room s e name linkage other → one ≡ other
one_name_of count room s e name (Some l) one other same p q = p ∙ sym q
one_name_of count room s e name None one other same p q =
    one_name_after count s name p.0 one other same p.2
    (subst (λ (o : Option (UnitEntryRecord × ℕ)). IsNameAfter count s name o other) (sym (one_origin room s e p.0 q.0 p.1 q.1)) q.2)

one_name : (count room : ℕ) (s : DebugSectionsRecord) (e : UnitEntryRecord) (before one other : Option (List ℕ))
    → IsNameWithin count room s e before one → IsNameWithin count room s e before other → one ≡ other
one_name zero room s e before one other p q = p ∙ sym q
one_name (suc count) room s e before one other p q =
    let name = option_or before (text_in s e e.entry.attributes.name) in
    one_name_of count room s e name (linkage_name s e) one other (λ x h k. one_name count x.1 s x.0 name one other h k) p q

-- one frame
one_frame : (s : DebugSectionsRecord) (lines : LinesRecord) (e : UnitEntryRecord) (place : SourceLocation)
    (one other : FrameRecord) → IsFrame s lines e place one → IsFrame s lines e place other → one ≡ other
one_frame s lines e place one other p q =
    let name : one.name ≡ other.name = one_name 16 16384 s e None one.name other.name p.name q.name in
    let path : one.path ≡ other.path = p.path ∙ sym q.path in
    let line : one.line ≡ other.line = p.line ∙ sym q.line in
    let column : one.column ≡ other.column = p.column ∙ sym q.column in
    let with_name : Option (List ℕ) → FrameRecord = λ x. record { name = x; path = one.path; line = one.line; column = one.column } in
    let with_path : Option PathRecord → FrameRecord = λ x. record { name = other.name; path = x; line = one.line; column = one.column } in
    let with_line : ℕ → FrameRecord = λ x. record { name = other.name; path = other.path; line = x; column = one.column } in
    let with_column : ℕ → FrameRecord = λ x. record { name = other.name; path = other.path; line = other.line; column = x } in
    ap with_name name ∙ ap with_path path ∙ ap with_line line ∙ ap with_column column

one_frames_from : (s : DebugSectionsRecord) (lines : LinesRecord) (unit : UnitRecord) (place : SourceLocation)
    (chain : List EntryRecord) (one other : List FrameRecord)
    → AreFramesFrom s lines unit place chain one → AreFramesFrom s lines unit place chain other → one ≡ other
one_frames_from s lines unit place [] one other p q = p ∙ sym q
one_frames_from s lines unit place (e ∷ es) [] other p q = absurd p
one_frames_from s lines unit place (e ∷ es) (f ∷ fs) [] p q = absurd q
one_frames_from s lines unit place (e ∷ es) (f ∷ fs) (g ∷ gs) p q =
    let here : f ≡ g = one_frame s lines (record { unit = unit; entry = e }) place f g p.0 q.0 in
    let rest : fs ≡ gs = one_frames_from s lines unit (location_of_call e) es fs gs p.1 q.1 in
    ap (λ (x : FrameRecord). x ∷ fs) here ∙ ap (λ (xs : List FrameRecord). g ∷ xs) rest

one_frames_of_chain : (s : DebugSectionsRecord) (lines : LinesRecord) (unit : UnitRecord) (chain : List EntryRecord)
    (row : Option Row) (one other : List FrameRecord)
    → AreFramesOfChain s lines unit chain row one → AreFramesOfChain s lines unit chain row other → one ≡ other
one_frames_of_chain s lines unit [] None one other p q = p ∙ sym q
one_frames_of_chain s lines unit [] (Some row) one other p q = p ∙ sym q
one_frames_of_chain s lines unit (e ∷ es) row one other p q = one_frames_from s lines unit (location_of_row row) (e ∷ es) one other p q

-- one list of frames
one_in_unit : (s : DebugSectionsRecord) (unit : UnitRecord) (a : ℕ) (one other : List FrameRecord)
    → AreFramesInUnit s unit a one → AreFramesInUnit s unit a other → one ≡ other
one_in_unit s unit a one other p q =
    let chain : q.chain ≡ p.chain = one_chain 256 a (scopes_of s unit) None q.chain p.chain q.contain p.contain in
    let row : q.row ≡ p.row = one_covering (rows_of (lines_of s unit)) a q.row p.row q.covers p.covers in
    let by_chain = subst (λ (c : List EntryRecord). AreFramesOfChain s (lines_of s unit) unit (calls_of (reverse c)) q.row other) chain q.are_frames in
    let by_row = subst (λ (r : Option Row). AreFramesOfChain s (lines_of s unit) unit (calls_of (reverse p.chain)) r other) row by_chain in
    one_frames_of_chain s (lines_of s unit) unit (calls_of (reverse p.chain)) p.row one other p.are_frames by_row

one_in : (s : DebugSectionsRecord) (unit : Option UnitRecord) (a : ℕ) (one other : List FrameRecord)
    → AreFramesIn s unit a one → AreFramesIn s unit a other → one ≡ other
one_in s None a one other p q = p ∙ sym q
one_in s (Some unit) a one other p q = one_in_unit s unit a one other p q

pub one_by : (s : DebugSectionsRecord) (a : ℕ) (one other : List FrameRecord) → AreFramesBy s a one → AreFramesBy s a other → one ≡ other
one_by s a one other p q =
    let place : q.place ≡ p.place = one_place s a q.place p.place q.is_unit p.is_unit in
    one_in s (option_and_then (read_unit s) p.place) a one other p.are_frames
    (subst (λ (o : Option ℕ). AreFramesIn s (option_and_then (read_unit s) o) a other) place q.are_frames)

-- lines and columns are below 2^32
abbrev Small : FrameRecord → Type 0
Small f = (f.line < 2 ^ 32) × (f.column < 2 ^ 32)

known_small : (n : ℕ) → known_number n < 2 ^ 32
known_small n = elim (cases_Bool (nat_lt n (2 ^ 32))) [
  | inl t ↦ rw t (ltb-true n (2 ^ 32) t)
  | inr f ↦ rw f (omega arith)
]

row_small : (row : Option Row) → ((location_of_row row).line < 2 ^ 32) × ((location_of_row row).column < 2 ^ 32)
row_small None = (omega arith, omega arith)
row_small (Some row) = (known_small row.registers.line, known_small row.registers.column)

none_small : (frames : List FrameRecord) → frames ≡ [] → All Small frames
none_small frames none = subst (All Small) (sym none) (All-nil Small)

small_from : (s : DebugSectionsRecord) (lines : LinesRecord) (unit : UnitRecord) (place : SourceLocation)
    (chain : List EntryRecord) (frames : List FrameRecord) → place.line < 2 ^ 32 → place.column < 2 ^ 32
    → AreFramesFrom s lines unit place chain frames → All Small frames
small_from s lines unit place [] frames line column p = none_small frames p
small_from s lines unit place (e ∷ es) [] line column p = absurd p
small_from s lines unit place (e ∷ es) (f ∷ fs) line column p =
    All-cons Small f fs
    (subst (λ (n : ℕ). n < 2 ^ 32) (sym p.0.line) line, subst (λ (n : ℕ). n < 2 ^ 32) (sym p.0.column) column)
    (small_from s lines unit (location_of_call e) es fs (known_small (constant_or_zero e.attributes.call_line))
    (known_small (constant_or_zero e.attributes.call_column)) p.1)

small_of_chain : (s : DebugSectionsRecord) (lines : LinesRecord) (unit : UnitRecord) (chain : List EntryRecord)
    (row : Option Row) (frames : List FrameRecord) → AreFramesOfChain s lines unit chain row frames → All Small frames
small_of_chain s lines unit [] None frames p = none_small frames p
small_of_chain s lines unit [] (Some row) frames p =
    subst (All Small) (sym p)
    (All-cons Small (frame_of_row lines row) [] (known_small row.registers.line, known_small row.registers.column) (All-nil Small))
small_of_chain s lines unit (e ∷ es) row frames p =
    small_from s lines unit (location_of_row row) (e ∷ es) frames (row_small row).0 (row_small row).1 p

small_in : (s : DebugSectionsRecord) (unit : Option UnitRecord) (a : ℕ) (frames : List FrameRecord)
    → AreFramesIn s unit a frames → All Small frames
small_in s None a frames p = none_small frames p
small_in s (Some unit) a frames p =
    small_of_chain s (lines_of s unit) unit (calls_of (reverse p.chain)) p.row frames p.are_frames

pub small_by : (s : DebugSectionsRecord) (a : ℕ) (frames : List FrameRecord) → AreFramesBy s a frames
    → All (λ (f : FrameRecord). (f.line < 2 ^ 32) × (f.column < 2 ^ 32)) frames
small_by s a frames p = small_in s (option_and_then (read_unit s) p.place) a frames p.are_frames

-- without units nothing is read
no_units : (offset : ℕ) → unit_of [] offset ≡ None
unfolding placed_from placed_within
no_units offset = refl

nothing_read : (s : DebugSectionsRecord) (place : Option ℕ) → s.debug_info ≡ [] → option_and_then (read_unit s) place ≡ None
unfolding read_unit
nothing_read s None none = refl
nothing_read s (Some place) none =
    ap (option_and_then (unit_of_bytes s.debug_abbrev place)) (ap (λ (section : List ℕ). unit_of section place) none ∙ no_units place)

pub none_by : (s : DebugSectionsRecord) (a : ℕ) (frames : List FrameRecord) → s.debug_info ≡ [] → AreFramesBy s a frames → frames ≡ []
none_by s a frames none p = subst (λ (u : Option UnitRecord). AreFramesIn s u a frames) (nothing_read s p.place none) p.are_frames
