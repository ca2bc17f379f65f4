-- Steps over the names of a header.
use Rattle.std.proofs.Common.{◌≡◌, ℕ, ◌+◌, ◌<◌, ◌≤◌, Bool, true, false, List, ◌∷◌, length, drop, get_or, ◌==◌, Option}
use Rattle.std.proofs.Common.{Some, None, ap, sym, ◌∙◌, inl, inr, arith}
use Rattle.std.specs.Option.{option_map, option_and_then}
use Rattle.std.proofs.lemmas.Bool.{cases_Bool}
use Rattle.std.proofs.lemmas.Option.{option_and_then_some}
use Rattle.std.proofs.lemmas.List.{drop_more, drop_all}
use Rattle.dwarf_encoding.specs.Leb128.{last_unsigned, unsigned_leb128_at}
use Rattle.dwarf_encoding.specs.Text.{text_at}
use Rattle.dwarf_encoding.specs.Values.{ValueRecord, InlineString}
use Rattle.dwarf_encoding.specs.Sequences.{Shortens}
use Rattle.dwarf_encoding.proofs.ShorterLemmas.{text_shorter, leb128_shorter}
use Rattle.dwarf_lines.specs.Names.{NameRecord, FieldsRecord, directory_index_at, directory_or_none_at, listed_name_at, name_value_at, with_value, fields_from}
use Rattle.dwarf_encoding.proofs.SequenceLemmas.{mapped as mapped_some}

-- an index has a byte
index_shorter : (bytes : List ℕ) (x : ℕ × List ℕ) → directory_index_at bytes ≡ Some x → length x.1 < length bytes
unfolding directory_index_at
index_shorter bytes x e =
    option_and_then_some _ (unsigned_leb128_at bytes) x e
    (λ y found after.
    option_and_then_some _ (unsigned_leb128_at y.1) x after
    (λ z second third.
    let w = mapped_some (λ (v : ℕ × List ℕ). (y.0, v.1)) (unsigned_leb128_at z.1) x third in
    omega (
      arith,
      leb128_shorter last_unsigned bytes y found,
      leb128_shorter last_unsigned y.1 z second,
      leb128_shorter last_unsigned z.1 w.0 w.1,
      ap (λ (v : ℕ × List ℕ). length v.1) w.2,
    )))

index_no_longer : (is_file : Bool) (bytes : List ℕ) (x : ℕ × List ℕ) → directory_or_none_at is_file bytes ≡ Some x → length x.1 ≤ length bytes
index_no_longer true bytes x e = omega (arith, index_shorter bytes x e)
index_no_longer false bytes x e = let same : (0, bytes) ≡ x = cc e in omega (arith, ap (λ (v : ℕ × List ℕ). length v.1) same)

-- a file or a directory has one
pub listed_name_shortens : (is_file : Bool) → Shortens (listed_name_at is_file)
unfolding listed_name_at
listed_name_shortens is_file = record {
  less = λ bytes x e.
      option_and_then_some _ (text_at bytes) x e
      (λ y found after. elim (cases_Bool (length y.0 == 0)) [
        | inl t ↦
            let here : ◌≡◌ {A = Option (Option NameRecord × List ℕ)} (Some (None, y.1)) (Some x) = rw t at after in
            let same : (None, y.1) ≡ x = cc here in
            omega (arith, text_shorter bytes y found, ap (λ (z : Option NameRecord × List ℕ). length z.1) same)
        | inr f ↦
            let here : option_map {U = Option NameRecord × List ℕ}
            (λ (z : ℕ × List ℕ). (Some (record { name = InlineString y.0; directory = z.0 }), z.1))
            (directory_or_none_at is_file y.1) ≡ Some x = rw f at after in
            let z = mapped_some _ (directory_or_none_at is_file y.1) x here in
            omega (arith, text_shorter bytes y found, index_no_longer is_file y.1 z.0 z.1, ap (λ (w : Option NameRecord × List ℕ). length w.1) z.2)
      ]);
}

-- a value more of an entry
pub fields_step : (fields next : FieldsRecord) (format : List (ℕ × ℕ)) (index : ℕ) (bytes rest : List ℕ)
    (value : ValueRecord) (whole : Option (FieldsRecord × List ℕ)) → index < length format
    → ◌≡◌ {A = Option (ValueRecord × List ℕ)} (Some (value, rest)) (name_value_at (get_or format index (0, 0)).1 bytes)
    → next ≡ with_value fields (get_or format index (0, 0)).0 value
    → fields_from fields (drop index format) bytes ≡ whole → fields_from next (drop (index + 1) format) rest ≡ whole
unfolding fields_from
fields_step fields next format index bytes rest value whole less read made before =
    let first : drop index format ≡ get_or format index (0, 0) ∷ drop (index + 1) format = drop_more format index (0, 0) less in
    let here : fields_from fields (get_or format index (0, 0) ∷ drop (index + 1) format) bytes
    ≡ whole = ap (λ f. fields_from fields f bytes) (sym first) ∙ before in
    ap (λ f. fields_from f (drop (index + 1) format) rest) made
    ∙ ap (option_and_then (λ (x : ValueRecord × List ℕ). fields_from (with_value fields (get_or format index (0, 0)).0 x.0) (drop (index + 1) format) x.1)) read
    ∙ here

-- one cannot be read
pub fields_fails : (fields : FieldsRecord) (format : List (ℕ × ℕ)) (index : ℕ) (bytes : List ℕ) (whole : Option (FieldsRecord × List ℕ)) → index < length format
    → name_value_at (get_or format index (0, 0)).1 bytes ≡ None → fields_from fields (drop index format) bytes ≡ whole → None ≡ whole
unfolding fields_from
fields_fails fields format index bytes whole less read before =
    let first : drop index format ≡ get_or format index (0, 0) ∷ drop (index + 1) format = drop_more format index (0, 0) less in
    ap (option_and_then (λ (x : ValueRecord × List ℕ). fields_from
    (with_value fields (get_or format index (0, 0)).0 x.0) (drop (index + 1) format) x.1)) (sym read)
    ∙ ap (λ f. fields_from fields f bytes) (sym first) ∙ before

-- all are read
pub fields_done : (fields : FieldsRecord) (format : List (ℕ × ℕ)) (index : ℕ) (bytes : List ℕ) (whole : Option (FieldsRecord × List ℕ)) → length format ≤ index
    → fields_from fields (drop index format) bytes ≡ whole → Some (fields, bytes) ≡ whole
unfolding fields_from
fields_done fields format index bytes whole all before =
    ap (λ f. fields_from fields f bytes) (sym (drop_all index format all)) ∙ before
