-- Steps over the entries of a unit.
use Rattle.std.proofs.Common.{◌≡◌, ℕ, zero, suc, ◌+◌, ◌-◌, ◌<◌, ◌≤◌, ◌==◌, List, [], ◌∷◌, ◌++◌, length, take, drop}
use Rattle.std.proofs.Common.{get_or, Option, Some, None, refl, sym, ap, ◌∙◌, inl, inr, arith, nat_le}
use Rattle.std.specs.Option.{option_map, option_map_or, option_and_then, option_to_list, IfSome}
use Rattle.std.proofs.lemmas.Bool.{cases_Bool, le-leb}
use Rattle.std.proofs.lemmas.List.{drop_more, drop_all}
use Rattle.std.proofs.lemmas.Option.{option_and_then_some}
use Rattle.dwarf_encoding.specs.Leb128.{last_unsigned, unsigned_leb128_at}
use Rattle.dwarf_encoding.specs.Forms.{value_at}
use Rattle.dwarf_encoding.specs.Values.{ValueRecord}
use Rattle.dwarf_encoding.specs.Sequences.{Shortens}
use Rattle.dwarf_encoding.proofs.SequenceLemmas.{none_or_some, nothing, mapped as mapped_some}
use Rattle.dwarf_encoding.proofs.ShorterLemmas.{leb128_shorter, value_shorter}
use Rattle.dwarf_entries.specs.Attributes.{AttributesRecord, with_attribute}
use Rattle.dwarf_entries.specs.Abbreviations.{DeclarationRecord, declaration_of}
use Rattle.dwarf_entries.specs.Entries.{EntryRecord, PlacedRecord, attributes_from, entry_at, depth_after}
use Rattle.dwarf_entries.specs.Entries.{entries_within, entries_from, entry_within, left_after}
use Rattle.dwarf_entries.specs.declared.unit_header.UnitHeader.{UnitHeader}

-- a value more of an entry
pub attributes_step : (version : ℕ) (a next : AttributesRecord) (pairs : List (ℕ × ℕ)) (index : ℕ) (bytes rest : List ℕ)
    (value : ValueRecord) (whole : Option (AttributesRecord × List ℕ)) → index < length pairs
    → ◌≡◌ {A = Option (ValueRecord × List ℕ)} (Some (value, rest))
    (value_at version (get_or pairs index (0, 0)).1 0 bytes) → next
    ≡ with_attribute a (get_or pairs index (0, 0)).0 value
    → attributes_from version a (drop index pairs) bytes ≡ whole → attributes_from version next (drop (index + 1) pairs) rest ≡ whole
unfolding attributes_from
attributes_step version a next pairs index bytes rest value whole less read made before =
    let first : drop index pairs ≡ get_or pairs index (0, 0) ∷ drop (index + 1) pairs = drop_more pairs index (0, 0) less in
    let here : attributes_from version a (get_or pairs index (0, 0) ∷ drop (index + 1) pairs) bytes
    ≡ whole = ap (λ f. attributes_from version a f bytes) (sym first) ∙ before in
    ap (λ f. attributes_from version f (drop (index + 1) pairs) rest) made
    ∙ ap (option_and_then (λ (x : ValueRecord × List ℕ). attributes_from version
    (with_attribute a (get_or pairs index (0, 0)).0 x.0) (drop (index + 1) pairs) x.1)) read
    ∙ here

-- one cannot be read
pub attributes_fails : (version : ℕ) (a : AttributesRecord) (pairs : List (ℕ × ℕ)) (index : ℕ) (bytes : List ℕ)
    (whole : Option (AttributesRecord × List ℕ)) → index < length pairs
    → value_at version (get_or pairs index (0, 0)).1 0 bytes ≡ None → attributes_from version a (drop index pairs) bytes ≡ whole → None ≡ whole
unfolding attributes_from
attributes_fails version a pairs index bytes whole less read before =
    let first : drop index pairs ≡ get_or pairs index (0, 0) ∷ drop (index + 1) pairs = drop_more pairs index (0, 0) less in
    ap (option_and_then (λ (x : ValueRecord × List ℕ). attributes_from version
    (with_attribute a (get_or pairs index (0, 0)).0 x.0) (drop (index + 1) pairs) x.1)) (sym read)
    ∙ ap (λ f. attributes_from version a f bytes) (sym first) ∙ before

-- all are read
pub attributes_done : (version : ℕ) (a : AttributesRecord) (pairs : List (ℕ × ℕ)) (index : ℕ) (bytes : List ℕ)
    (whole : Option (AttributesRecord × List ℕ)) → length pairs ≤ index
    → attributes_from version a (drop index pairs) bytes ≡ whole → Some (a, bytes) ≡ whole
unfolding attributes_from
attributes_done version a pairs index bytes whole all before =
    ap (λ f. attributes_from version a f bytes) (sym (drop_all index pairs all)) ∙ before

-- values have no byte or more
attributes_shorter : (version : ℕ) (a : AttributesRecord) (pairs : List (ℕ × ℕ)) (bytes : List ℕ)
    (x : AttributesRecord × List ℕ) → attributes_from version a pairs bytes ≡ Some x → length x.1 ≤ length bytes
unfolding attributes_from
attributes_shorter version a [] bytes x e =
    let same : ◌≡◌ {A = AttributesRecord × List ℕ} (a, bytes) x = cc e in
    omega (arith, ap (λ (y : AttributesRecord × List ℕ). length y.1) same)
attributes_shorter version a (pair ∷ pairs) bytes x e =
    option_and_then_some _ (value_at version pair.1 0 bytes) x e
    (λ y first more. omega (arith, value_shorter version pair.1 0 bytes y first, attributes_shorter version (with_attribute a pair.0 y.0) pairs y.1 x more))

-- an entry has a byte
pub entry_shortens : (abbreviations : List ℕ) (header : UnitHeader) → Shortens (entry_at abbreviations header)
unfolding entry_at
entry_shortens abbreviations header = record {
  less = λ bytes x e.
      option_and_then_some _ (unsigned_leb128_at bytes) x e
      (λ y first more. elim (cases_Bool (y.0 == 0)) [
        | inl t ↦
            let here : ◌≡◌ {A = Option (Option EntryRecord × List ℕ)} (Some (None, y.1)) (Some x) = rw t at more in
            let same : (None, y.1) ≡ x = cc here in
            omega (arith, leb128_shorter last_unsigned bytes y first, ap (λ (w : Option EntryRecord × List ℕ). length w.1) same)
        | inr f ↦
            option_and_then_some
            (λ (d : DeclarationRecord). option_map {U = Option EntryRecord × List ℕ}
            (λ (z : AttributesRecord × List ℕ). (Some (record { tag = d.tag; has_children = d.has_children; attributes = z.0 }), z.1))
            (attributes_from header.version d.shape.constants d.shape.pairs y.1))
            (declaration_of abbreviations header.debug_abbrev_offset y.0) x (rw f at more)
            (λ d declared last.
            let z = mapped_some _ (attributes_from header.version d.shape.constants d.shape.pairs y.1) x last in
            omega (
              arith,
              leb128_shorter last_unsigned bytes y first,
              attributes_shorter header.version d.shape.constants d.shape.pairs y.1 z.0 z.1,
              ap (λ (w : Option EntryRecord × List ℕ). length w.1) z.2,
            ))
      ]);
}

-- the entries that follow at a depth, if there is one
abbrev pub entries_next : List ℕ → UnitHeader → ℕ → Option ℕ → List ℕ → List PlacedRecord
entries_next abbreviations header size depth bytes =
    option_map_or (λ d. entries_from abbreviations header size d bytes) depth []

-- an entry at its place
abbrev pub placed_at : ℕ → ℕ → ℕ → Option EntryRecord → List PlacedRecord
placed_at size left depth found =
    option_to_list (option_map (λ e. record { offset = size - left; depth = depth; entry = e }) found)

within_missing : (count : ℕ) (abbreviations : List ℕ) (header : UnitHeader) (size depth : ℕ) (bytes : List ℕ)
    → entry_at abbreviations header bytes ≡ None → entries_within count abbreviations header size depth bytes ≡ []
unfolding entries_within
within_missing zero abbreviations header size depth bytes e = refl
within_missing (suc count) abbreviations header size depth bytes e = rw e refl

within_some : (count : ℕ) (abbreviations : List ℕ) (header : UnitHeader) (size depth : ℕ) (bytes : List ℕ)
    (x : Option EntryRecord × List ℕ) → entry_at abbreviations header bytes ≡ Some x
    → entries_within (suc count) abbreviations header size depth bytes
    ≡ placed_at size (length bytes) depth x.0 ++ option_map_or (λ d. entries_within count abbreviations header size d x.1) (depth_after depth x.0) []
unfolding entries_within
within_some count abbreviations header size depth bytes x e = rw e refl

-- the same at an optional depth
same_next : (m n : ℕ) (abbreviations : List ℕ) (header : UnitHeader) (size : ℕ) (depth : Option ℕ) (bytes : List ℕ)
    → ((d : ℕ) → entries_within m abbreviations header size d bytes
    ≡ entries_within n abbreviations header size d bytes)
    → ◌≡◌ {A = List PlacedRecord} (option_map_or (λ d. entries_within m abbreviations header size d bytes) depth [])
    (option_map_or (λ d. entries_within n abbreviations header size d bytes) depth [])
same_next m n abbreviations header size None bytes h = refl
same_next m n abbreviations header size (Some d) bytes h = h d

same_within : (m n : ℕ) (abbreviations : List ℕ) (header : UnitHeader) (size depth : ℕ) (bytes : List ℕ)
    → length bytes ≤ m → length bytes ≤ n → entries_within m abbreviations header size depth bytes
    ≡ entries_within n abbreviations header size depth bytes
same_within zero n abbreviations header size depth [] k l =
    within_missing 0 abbreviations header size depth []
    (nothing (entry_at abbreviations header) (entry_shortens abbreviations header))
    ∙ sym (within_missing n abbreviations header size depth []
    (nothing (entry_at abbreviations header) (entry_shortens abbreviations header)))
same_within zero n abbreviations header size depth (b ∷ bytes) k l = absurd (omega arith)
same_within (suc m) zero abbreviations header size depth [] k l =
    within_missing (suc m) abbreviations header size depth []
    (nothing (entry_at abbreviations header) (entry_shortens abbreviations header))
    ∙ sym (within_missing 0 abbreviations header size depth []
    (nothing (entry_at abbreviations header) (entry_shortens abbreviations header)))
same_within (suc m) zero abbreviations header size depth (b ∷ bytes) k l = absurd (omega arith)
same_within (suc m) (suc n) abbreviations header size depth bytes k l = elim (none_or_some (entry_at abbreviations header bytes)) [
  | inl e ↦ within_missing (suc m) abbreviations header size depth bytes e ∙ sym (within_missing (suc n) abbreviations header size depth bytes e)
  | inr x ↦
      let less : length x.0.1 < length bytes = (entry_shortens abbreviations header).less bytes x.0 x.1 in
      within_some m abbreviations header size depth bytes x.0 x.1
      ∙ ap (λ rest. placed_at size (length bytes) depth x.0.0 ++ rest)
      (same_next m n abbreviations header size (depth_after depth x.0.0) x.0.1
      (λ d. same_within m n abbreviations header size d x.0.1 (omega arith) (omega arith)))
      ∙ sym (within_some n abbreviations header size depth bytes x.0 x.1)
]

-- an entry, and those that follow
from_some : (abbreviations : List ℕ) (header : UnitHeader) (size depth : ℕ) (bytes : List ℕ)
    (x : Option EntryRecord × List ℕ) → entry_at abbreviations header bytes ≡ Some x
    → entries_from abbreviations header size depth bytes ≡ placed_at size (length bytes) depth x.0
    ++ entries_next abbreviations header size (depth_after depth x.0) x.1
unfolding entries_from
from_some abbreviations header size depth [] x e = cc (nothing (entry_at abbreviations header) (entry_shortens abbreviations header), e)
from_some abbreviations header size depth (b ∷ bytes) x e =
    let less : length x.1 < suc (length bytes) = (entry_shortens abbreviations header).less (b ∷ bytes) x e in
    within_some (length bytes) abbreviations header size depth (b ∷ bytes) x e
    ∙ ap (λ rest. placed_at size (length (b ∷ bytes)) depth x.0 ++ rest)
    (same_next (length bytes) (length x.1) abbreviations header size (depth_after depth x.0) x.1
    (λ d. same_within (length bytes) (length x.1) abbreviations header size d x.1 (omega arith) (omega arith)))

-- none
pub entries_missing : (abbreviations : List ℕ) (header : UnitHeader) (size depth : ℕ) (bytes : List ℕ)
    → entry_at abbreviations header bytes ≡ None → entries_from abbreviations header size depth bytes ≡ []
unfolding entries_from
entries_missing abbreviations header size depth bytes e = within_missing (length bytes) abbreviations header size depth bytes e

-- a step over an entry or a null entry
pub entries_step : (abbreviations : List ℕ) (header : UnitHeader) (size depth : ℕ) (next : Option ℕ)
    (bytes rest : List ℕ) (found : Option EntryRecord) (start : List PlacedRecord)
    → ◌≡◌ {A = Option (Option EntryRecord × List ℕ)} (Some (found, rest)) (entry_at abbreviations header bytes) → next ≡ depth_after depth found
    → entries_from abbreviations header size depth bytes ≡ start → placed_at size (length bytes) depth found
    ++ entries_next abbreviations header size next rest ≡ start
entries_step abbreviations header size depth next bytes rest found start read moved before =
    ap (λ d. placed_at size (length bytes) depth found ++ entries_next abbreviations header size d rest) moved
    ∙ sym (from_some abbreviations header size depth bytes (found, rest) (sym read)) ∙ before

-- fewer bytes are left
pub entry_less : (abbreviations : List ℕ) (header : UnitHeader) (bytes rest : List ℕ) (found : Option EntryRecord)
    → ◌≡◌ {A = Option (Option EntryRecord × List ℕ)} (Some (found, rest)) (entry_at abbreviations header bytes) → length rest < length bytes
entry_less abbreviations header bytes rest found read = (entry_shortens abbreviations header).less bytes (found, rest) (sym read)

-- one entry at its offset
pub one_found : (abbreviations : List ℕ) (header : UnitHeader) (unit : List ℕ) (offset : ℕ) (found : Option EntryRecord)
    (rest : List ℕ) (room : ℕ) → header.entries_offset ≤ offset
    → ◌≡◌ {A = Option (Option EntryRecord × List ℕ)} (Some (found, rest))
    (entry_at abbreviations header (take room (drop offset unit)))
    → option_map (λ e. (e, left_after room (take room (drop offset unit)) rest)) found
    ≡ entry_within room abbreviations header unit offset
one_found abbreviations header unit offset found rest room h read =
    rw (le-leb header.entries_offset offset h)
    (ap (option_and_then (λ (x : Option EntryRecord × List ℕ). option_map (λ e. (e, left_after room (take room (drop offset unit)) x.1)) x.0)) read)

pub one_missing : (abbreviations : List ℕ) (header : UnitHeader) (unit : List ℕ) (offset room : ℕ) → header.entries_offset ≤ offset
    → entry_at abbreviations header (take room (drop offset unit)) ≡ None → entry_within room abbreviations header unit offset ≡ None
one_missing abbreviations header unit offset room h read =
    rw (le-leb header.entries_offset offset h)
    (ap (option_and_then (λ (x : Option EntryRecord × List ℕ). option_map (λ e. (e, left_after room (take room (drop offset unit)) x.1)) x.0)) read)

-- a step at an optional depth
pub next_step : (abbreviations : List ℕ) (header : UnitHeader) (size : ℕ) (depth next : Option ℕ) (d : ℕ)
    (bytes rest : List ℕ) (found : Option EntryRecord) (start : List PlacedRecord) → depth ≡ Some d
    → ◌≡◌ {A = Option (Option EntryRecord × List ℕ)} (Some (found, rest)) (entry_at abbreviations header bytes) → next ≡ depth_after d found
    → entries_next abbreviations header size depth bytes ≡ start → placed_at size (length bytes) d found
    ++ entries_next abbreviations header size next rest ≡ start
next_step abbreviations header size depth next d bytes rest found start here read moved before =
    entries_step abbreviations header size d next bytes rest found start read moved
    (ap (λ o. entries_next abbreviations header size o bytes) (sym here) ∙ before)

-- none at an optional depth
pub next_missing : (abbreviations : List ℕ) (header : UnitHeader) (size : ℕ) (depth : Option ℕ) (d : ℕ) (bytes : List ℕ)
    → depth ≡ Some d → entry_at abbreviations header bytes ≡ None
    → entries_next abbreviations header size depth bytes ≡ []
next_missing abbreviations header size depth d bytes here none =
    ap (λ o. entries_next abbreviations header size o bytes) here ∙ entries_missing abbreviations header size d bytes none

-- a depth is no greater than the bytes before it
pub depth_fits : (d left fewer size : ℕ) (found : Option EntryRecord) (next : Option ℕ) → next ≡ depth_after d found
    → d + left ≤ size → fewer < left → IfSome next (λ e. e + fewer ≤ size)
depth_fits d left fewer size None next moved fits less = elim (cases_Bool (nat_le d 1)) [
  | inl t ↦ rw (moved, t) tt
  | inr f ↦ rw (moved, f) (omega arith)
]
depth_fits d left fewer size (Some e) next moved fits less = elim (cases_Bool e.has_children) [
  | inl t ↦ rw (moved, t) (omega arith)
  | inr f ↦ elim (cases_Bool (d == 0)) [
    | inl t ↦ rw (moved, f, t) tt
    | inr g ↦ rw (moved, f, g) (omega arith)
  ]
]
