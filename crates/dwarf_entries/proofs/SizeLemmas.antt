-- The bytes after the values of an entry.
use Rattle.std.proofs.Common.{◌≡◌, ◌≢◌, ℕ, ◌+◌, ◌<◌, ◌≤◌, ◌==◌, Bool, true, false, nat_lt, List, [], ◌∷◌, length, drop}
use Rattle.std.proofs.Common.{get_or, cond, Option, Some, None, refl, sym, ap, ◌∙◌, inl, inr, arith, length-drop}
use Rattle.std.specs.Option.{option_map, option_and_then, option_or}
use Rattle.std.proofs.lemmas.Bool.{cases_Bool, eqb-true, lt-ltb, le-ltb, ltb-true, ltb-false, ne_eqb}
use Rattle.std.proofs.lemmas.List.{drop_more, drop_all, drop-drop}
use Rattle.std.proofs.lemmas.Option.{none-some, option_and_then_some}
use Rattle.dwarf_encoding.specs.FormNumbers.{DW_FORM_implicit_const}
use Rattle.dwarf_encoding.specs.Forms.{fixed_size, value_at}
use Rattle.dwarf_encoding.specs.Leb128.{unsigned_leb128_at}
use Rattle.dwarf_encoding.specs.Values.{ValueRecord}
use Rattle.dwarf_entries.specs.Attributes.{AttributesRecord, with_attribute}
use Rattle.dwarf_entries.specs.Abbreviations.{DeclarationRecord, declaration_of}
use Rattle.dwarf_entries.specs.Entries.{EntryRecord, attributes_from, attributes_of, entry_at}
use Rattle.dwarf_entries.specs.Specifications.{ShapeRecord, total_size, values_after}
use Rattle.dwarf_entries.specs.declared.unit_header.UnitHeader.{UnitHeader}
use Rattle.dwarf_encoding.proofs.SequenceLemmas.{mapped as mapped_some}

-- a size more
pub size_step : (pairs : List (ℕ × ℕ)) (index size next one : ℕ) (whole : Option ℕ) → index < length pairs
    → fixed_size 3 (get_or pairs index (0, 0)).1 ≡ Some one → next ≡ size + one
    → option_map (λ m. size + m) (total_size (drop index pairs)) ≡ whole → option_map (λ m. next + m) (total_size (drop (index + 1) pairs)) ≡ whole
unfolding total_size
size_step pairs index size next one whole less is sum before =
    let rest = drop (index + 1) pairs in
    let first : drop index pairs ≡ get_or pairs index (0, 0) ∷ rest = drop_more pairs index (0, 0) less in
    let here : option_map (λ m. size + m) (option_map (λ m. one + m) (total_size rest)) ≡ whole =
    ap (λ (o : Option ℕ). option_map (λ m. size + m) (option_and_then (λ n. option_map (λ m. n + m) (total_size rest)) o)) (sym is)
    ∙ ap (λ f. option_map (λ m. size + m) (total_size f)) (sym first) ∙ before in
    added (total_size rest) ∙ here
  where
    added : (o : Option ℕ) → option_map (λ m. next + m) o ≡ option_map (λ m. size + m) (option_map (λ m. one + m) o)
    added None = refl
    added (Some m) = ap Some (omega arith)

pub size_done : (pairs : List (ℕ × ℕ)) (index size : ℕ) → length pairs ≤ index
    → option_map (λ m. size + m) (total_size (drop index pairs)) ≡ total_size pairs → total_size pairs ≡ Some size
unfolding total_size
size_done pairs index size all before =
    let here : option_map (λ m. size + m) (total_size [])
    ≡ total_size pairs = ap (λ f. option_map (λ m. size + m) (total_size f)) (sym (drop_all index pairs all))
    ∙ before in
    sym here ∙ ap Some (omega arith)

pub size_start : (pairs : List (ℕ × ℕ)) → option_map (λ m. 0 + m) (total_size pairs) ≡ total_size pairs
size_start pairs = same (total_size pairs)
  where
    same : (o : Option ℕ) → option_map (λ m. 0 + m) o ≡ o
    same None = refl
    same (Some m) = ap Some (omega arith)

-- a value more of those that are passed over
pub after_step : (version : ℕ) (pairs : List (ℕ × ℕ)) (index : ℕ) (bytes rest : List ℕ) (whole : Option (List ℕ)) → index < length pairs
    → Some rest ≡ option_map (λ x. x.1) (value_at version (get_or pairs index (0, 0)).1 0 bytes)
    → values_after version (drop index pairs) bytes ≡ whole → values_after version (drop (index + 1) pairs) rest ≡ whole
unfolding values_after
after_step version pairs index bytes rest whole less read before =
    let first : drop index pairs ≡ get_or pairs index (0, 0) ∷ drop (index + 1) pairs = drop_more pairs index (0, 0) less in
    let y = mapped_some (λ (x : ValueRecord × List ℕ). x.1) (value_at version (get_or pairs index (0, 0)).1 0 bytes) rest (sym read) in
    ap (values_after version (drop (index + 1) pairs)) (sym y.2)
    ∙ ap (option_and_then (λ (x : ValueRecord × List ℕ). values_after version (drop (index + 1) pairs) x.1)) (sym y.1)
    ∙ ap (λ f. values_after version f bytes) (sym first) ∙ before

pub after_fails : (version : ℕ) (pairs : List (ℕ × ℕ)) (index : ℕ) (bytes : List ℕ) (whole : Option (List ℕ)) → index < length pairs
    → None ≡ option_map (λ x. x.1) (value_at version (get_or pairs index (0, 0)).1 0 bytes)
    → values_after version (drop index pairs) bytes ≡ whole → None ≡ whole
unfolding values_after
after_fails version pairs index bytes whole less read before =
    let first : drop index pairs ≡ get_or pairs index (0, 0) ∷ drop (index + 1) pairs = drop_more pairs index (0, 0) less in
    ap (option_and_then (λ (x : ValueRecord × List ℕ). values_after version (drop (index + 1) pairs) x.1))
    (sym (nothing_mapped (value_at version (get_or pairs index (0, 0)).1 0 bytes) read))
    ∙ ap (λ f. values_after version f bytes) (sym first) ∙ before
  where
    nothing_mapped : (o : Option (ValueRecord × List ℕ)) → None ≡ option_map (λ x. x.1) o → o ≡ None
    nothing_mapped None e = refl
    nothing_mapped (Some x) e = cc e

pub after_done : (version : ℕ) (pairs : List (ℕ × ℕ)) (index : ℕ) (bytes : List ℕ) (whole : Option (List ℕ)) → length pairs ≤ index
    → values_after version (drop index pairs) bytes ≡ whole → Some bytes ≡ whole
unfolding values_after
after_done version pairs index bytes whole all before = ap (λ f. values_after version f bytes) (sym (drop_all index pairs all)) ∙ before

-- a form with one size in version 3 has it in the others from 3 on
same_size : (version form : ℕ) → 2 < version → fixed_size version form ≡ fixed_size 3 form
same_size version form h = rw (ne_eqb version 2 (λ e. omega (arith, e))) refl

-- and is not DW_FORM_implicit_const
in_entry : (form one : ℕ) → fixed_size 3 form ≡ Some one → (form == DW_FORM_implicit_const) ≡ false
in_entry form one e = elim (cases_Bool (form == DW_FORM_implicit_const)) [
  | inl t ↦
      let none : fixed_size 3 form ≡ None = ap (fixed_size 3) (eqb-true form DW_FORM_implicit_const t) in
      absurd (none-some one (sym none ∙ e))
  | inr f ↦ f
]

-- the bytes after a value of such a form
after_one : (version form one : ℕ) (bytes : List ℕ) → 2 < version → fixed_size 3 form ≡ Some one
    → option_map (λ x. x.1) (value_at version form 0 bytes) ≡ cond (nat_lt (length bytes) one) None (Some (drop one bytes))
unfolding value_at
after_one version form one bytes h e = elim (cases_Bool (nat_lt (length bytes) one)) [
  | inl t ↦ rw (in_entry form one e, same_size version form h, e, t) refl
  | inr f ↦ rw (in_entry form one e, same_size version form h, e, f) refl
]

-- the bytes after values that have a size
pub after_size : (version : ℕ) (pairs : List (ℕ × ℕ)) (bytes : List ℕ) (size : ℕ) → 2 < version → total_size pairs ≡ Some size
    → values_after version pairs bytes ≡ cond (nat_lt (length bytes) size) None (Some (drop size bytes))
unfolding total_size values_after
after_size version [] bytes size h e =
    let none : 0 ≡ size = cc e in
    let long : nat_lt (length bytes) 0 ≡ false = le-ltb _ _ (omega arith) in
    rw (← none, long) refl
after_size version (pair ∷ pairs) bytes size h e =
    option_and_then_some (λ n. option_map (λ m. n + m) (total_size pairs)) (fixed_size 3 pair.1) size e
    (λ one first more.
    let rest = mapped_some (λ m. one + m) (total_size pairs) size more in
    let here : values_after version (pair ∷ pairs) bytes
    ≡ option_and_then (values_after version pairs) (cond (nat_lt (length bytes) one) None (Some (drop one bytes))) =
    through (value_at version pair.1 0 bytes) ∙ ap (option_and_then (values_after version pairs)) (after_one version pair.1 one bytes h first) in
    here ∙ both one rest.0 rest.2 (after_size version pairs (drop one bytes) rest.0 h rest.1))
  where
    through : (o : Option (ValueRecord × List ℕ)) → option_and_then (λ x. values_after version pairs x.1) o
        ≡ option_and_then (values_after version pairs) (option_map (λ x. x.1) o)
    through None = refl
    through (Some x) = refl

    both : (one others : ℕ) → one + others ≡ size → values_after version pairs (drop one bytes)
        ≡ cond (nat_lt (length (drop one bytes)) others) None (Some (drop others (drop one bytes)))
        → option_and_then (values_after version pairs) (cond (nat_lt (length bytes) one) None (Some (drop one bytes)))
        ≡ cond (nat_lt (length bytes) size) None (Some (drop size bytes))
    both one others sum after = elim (cases_Bool (nat_lt (length bytes) one)) [
      | inl t ↦
          let short : nat_lt (length bytes) size ≡ true = lt-ltb _ _ (omega (arith, ltb-true (length bytes) one t)) in
          rw (t, short) refl
      | inr f ↦ elim (cases_Bool (nat_lt (length (drop one bytes)) others)) [
        | inl t ↦
            let short : nat_lt (length bytes) size ≡ true =
            lt-ltb _ _ (omega (
              arith,
              ltb-true (length (drop one bytes)) others t,
              length-drop one bytes,
              ltb-false (length bytes) one f,
            )) in
            rw (f, short) (after ∙ rw t refl)
        | inr g ↦
            let long : nat_lt (length bytes) size ≡ false =
            le-ltb _ _ (omega (
              arith,
              ltb-false (length (drop one bytes)) others g,
              length-drop one bytes,
              ltb-false (length bytes) one f,
            )) in
            rw (f, long) (after ∙ rw g (ap Some (drop-drop others one bytes ∙ ap (λ n. drop n bytes) sum)))
      ]
    ]

-- what is passed over are the values
values_after-is : (version : ℕ) (a : AttributesRecord) (pairs : List (ℕ × ℕ)) (bytes : List ℕ)
    → values_after version pairs bytes ≡ option_map (λ x. x.1) (attributes_from version a pairs bytes)
unfolding values_after attributes_from
values_after-is version a [] bytes = refl
values_after-is version a (pair ∷ pairs) bytes = behind (λ x. values_after-is version (with_attribute a pair.0 x.0) pairs x.1) (value_at version pair.1 0 bytes)
  where
    behind : ((x : ValueRecord × List ℕ) → values_after version pairs x.1
        ≡ option_map (λ (y : AttributesRecord × List ℕ). y.1)
        (attributes_from version (with_attribute a pair.0 x.0) pairs x.1)) → (o : Option (ValueRecord × List ℕ))
        → option_and_then (λ x. values_after version pairs x.1) o
        ≡ option_map (λ (y : AttributesRecord × List ℕ). y.1)
        (option_and_then (λ (x : ValueRecord × List ℕ). attributes_from version (with_attribute a pair.0 x.0) pairs
        x.1) o)
    behind h None = refl
    behind h (Some x) = h x

-- an entry whose values are passed over
pub passed_over : (version tag : ℕ) (has_children : Bool) (shape : ShapeRecord) (bytes rest : List ℕ) → Some rest ≡ values_after version shape.pairs bytes
    → ◌≡◌ {A = Option (Option EntryRecord × List ℕ)} (Some (
      Some (record { tag = tag; has_children = has_children; attributes = attributes_of version shape bytes }),
      rest,
    ))
    (option_map (λ y. (Some (record { tag = tag; has_children = has_children; attributes = y.0 }), y.1))
    (attributes_from version shape.constants shape.pairs bytes))
passed_over version tag has_children shape bytes rest e =
    let y = mapped_some (λ (x : AttributesRecord × List ℕ). x.1)
    (attributes_from version shape.constants shape.pairs bytes) rest
    (sym (e ∙ values_after-is version shape.constants shape.pairs bytes)) in
    rw (y.1, y.2) refl

pub not_passed : (version : ℕ) (shape : ShapeRecord) (bytes : List ℕ) → None ≡ values_after version shape.pairs bytes
    → attributes_from version shape.constants shape.pairs bytes ≡ None
not_passed version shape bytes e = nothing (attributes_from version shape.constants shape.pairs bytes)
    (e ∙ values_after-is version shape.constants shape.pairs bytes)
  where
    nothing : (o : Option (AttributesRecord × List ℕ)) → None ≡ option_map (λ x. x.1) o → o ≡ None
    nothing None h = refl
    nothing (Some x) h = cc h

-- a size that is kept with the pairs
pub size_known : (size : Option ℕ) (n : ℕ) (pairs : List (ℕ × ℕ)) → size ≡ Some n → option_or size (total_size pairs)
    ≡ total_size pairs → total_size pairs ≡ Some n
size_known size n pairs is kept = sym kept ∙ ap (λ o. option_or o (total_size pairs)) is

-- values that pass the end, and others
pub after_short : (version : ℕ) (pairs : List (ℕ × ℕ)) (bytes : List ℕ) (size : ℕ) → 2 < version → total_size pairs
    ≡ Some size → length bytes < size → None ≡ values_after version pairs bytes
after_short version pairs bytes size h is less =
    let short : nat_lt (length bytes) size ≡ true = lt-ltb _ _ less in
    sym (after_size version pairs bytes size h is ∙ rw short refl)

pub after_long : (version : ℕ) (pairs : List (ℕ × ℕ)) (bytes : List ℕ) (size : ℕ) → 2 < version → total_size pairs
    ≡ Some size → size ≤ length bytes → Some (drop size bytes) ≡ values_after version pairs bytes
after_long version pairs bytes size h is fits =
    let long : nat_lt (length bytes) size ≡ false = le-ltb _ _ fits in
    sym (after_size version pairs bytes size h is ∙ rw long refl)

-- an entry that is passed over
pub skipped : (section : List ℕ) (header : UnitHeader) (bytes values rest : List ℕ) (offset code : ℕ)
    (d : DeclarationRecord) → offset ≡ header.debug_abbrev_offset
    → ◌≡◌ {A = Option (ℕ × List ℕ)} (Some (code, values)) (unsigned_leb128_at bytes) → code ≢ 0 → Some d
    ≡ declaration_of section offset code → Some rest ≡ values_after header.version d.shape.pairs values
    → ◌≡◌ {A = Option (Option EntryRecord × List ℕ)} (Some (
      Some (record {
        tag = d.tag;
        has_children = d.has_children;
        attributes =
            attributes_of header.version d.shape values;
      }),
      rest,
    )) (entry_at section header bytes)
unfolding entry_at
skipped section header bytes values rest offset code d at read some declared passed =
    let here : unsigned_leb128_at bytes ≡ Some (code, values) = sym read in
    let found : declaration_of section header.debug_abbrev_offset code ≡ Some d = ap (λ o. declaration_of section o code) (sym at) ∙ sym declared in
    rw (here, ne_eqb code 0 some, found) (passed_over header.version d.tag d.has_children d.shape values rest passed)

pub skip_fails : (section : List ℕ) (header : UnitHeader) (bytes values : List ℕ) (offset code : ℕ)
    (d : DeclarationRecord) → offset ≡ header.debug_abbrev_offset
    → ◌≡◌ {A = Option (ℕ × List ℕ)} (Some (code, values)) (unsigned_leb128_at bytes) → code ≢ 0 → Some d
    ≡ declaration_of section offset code → None ≡ values_after header.version d.shape.pairs values
    → entry_at section header bytes ≡ None
unfolding entry_at
skip_fails section header bytes values offset code d at read some declared fails =
    let here : unsigned_leb128_at bytes ≡ Some (code, values) = sym read in
    let found : declaration_of section header.debug_abbrev_offset code ≡ Some d = ap (λ o. declaration_of section o code) (sym at) ∙ sym declared in
    rw (here, ne_eqb code 0 some, found, not_passed header.version d.shape values fails) refl
