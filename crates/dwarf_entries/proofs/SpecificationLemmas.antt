-- Steps over the specifications of a declaration.
use Rattle.std.proofs.Common.{◌≡◌, ℕ, ◌<◌, ◌==◌, ◌&&◌, List, ◌∷◌, length, Option, Some, None, refl, sym, ap, ◌∙◌, inl, inr, arith}
use Rattle.std.specs.Option.{option_map}
use Rattle.std.proofs.lemmas.Bool.{cases_Bool}
use Rattle.std.proofs.lemmas.Option.{option_and_then_some}
use Rattle.dwarf_encoding.specs.FormNumbers.{DW_FORM_implicit_const}
use Rattle.dwarf_encoding.specs.Leb128.{last_unsigned, last_signed, unsigned_leb128_at, signed_leb128_at}
use Rattle.dwarf_encoding.specs.Sequences.{Shortens, ended}
use Rattle.dwarf_encoding.proofs.SequenceLemmas.{ended_some, ended_end, ended_missing, mapped as mapped_some}
use Rattle.dwarf_encoding.proofs.ShorterLemmas.{leb128_shorter}
use Rattle.dwarf_entries.specs.Specifications.{ShapeRecord, specification_at, with_specification, shape_from, shaped}
use Rattle.dwarf_entries.specs.declared.specification.Specification.{Specification}

-- a specification has a byte
pub specification_shortens : Shortens specification_at
unfolding specification_at
specification_shortens = record {
  less = λ bytes x e.
      option_and_then_some _ (unsigned_leb128_at bytes) x e
      (λ y first more. option_and_then_some _ (unsigned_leb128_at y.1) x more
      (λ z second rest.
      let known : length z.1 < length bytes = omega (arith, leb128_shorter last_unsigned bytes y first, leb128_shorter last_unsigned y.1 z second) in
      elim (cases_Bool ((y.0 == 0) && (z.0 == 0))) [
        | inl t ↦
            let here : ◌≡◌ {A = Option (Option Specification × List ℕ)} (Some (None, z.1)) (Some x) = rw t at rest in
            let same : (None, z.1) ≡ x = cc here in
            omega (arith, known, ap (λ (w : Option Specification × List ℕ). length w.1) same)
        | inr f ↦ elim (cases_Bool (z.0 == DW_FORM_implicit_const)) [
          | inl t ↦
              let here : option_map {U = Option Specification × List ℕ}
              (λ (w : ℕ × List ℕ). (Some (record { attribute = y.0; form = z.0; implicit = w.0 }), w.1))
              (signed_leb128_at z.1) ≡ Some x = rw (f, t) at rest in
              let v = mapped_some _ (signed_leb128_at z.1) x here in
              omega (arith, known, leb128_shorter last_signed z.1 v.0 v.1, ap (λ (w : Option Specification × List ℕ). length w.1) v.2)
          | inr g ↦
              let here : ◌≡◌ {A = Option (Option Specification × List ℕ)}
              (Some (Some (record { attribute = y.0; form = z.0; implicit = 0 }), z.1)) (Some x) = rw (f, g) at rest
              in
              let same : (Some (record { attribute = y.0; form = z.0; implicit = 0 }), z.1) ≡ x = cc here in
              omega (arith, known, ap (λ (w : Option Specification × List ℕ). length w.1) same)
        ]
      ]));
}

-- one specification more, before those that follow
shape_first : (shape next : ShapeRecord) (s : Specification) (o : Option (List Specification × List ℕ)) → next ≡ with_specification shape s
    → shaped next o ≡ shaped shape (option_map {U = List Specification × List ℕ} (λ (y : List Specification × List ℕ). (s ∷ y.0, y.1)) o)
unfolding shape_from
shape_first shape next s None made = refl
shape_first shape next s (Some y) made = ap (λ (sh : ShapeRecord). shaped sh (Some y)) made

-- a step of the walk
pub shape_step : (shape next : ShapeRecord) (s : Specification) (bytes rest : List ℕ)
    (whole : Option (ShapeRecord × List ℕ)) → ◌≡◌ {A = Option (Option Specification × List ℕ)} (Some (Some s, rest))
    (specification_at bytes)
    → next ≡ with_specification shape s → shaped shape (ended specification_at bytes) ≡ whole → shaped next (ended specification_at rest) ≡ whole
shape_step shape next s bytes rest whole read made before =
    shape_first shape next s (ended specification_at rest) made
    ∙ ap (shaped shape) (sym (ended_some specification_at specification_shortens bytes s rest (sym read))) ∙ before

-- the two zeros
pub shape_done : (shape : ShapeRecord) (bytes rest : List ℕ) (whole : Option (ShapeRecord × List ℕ))
    → ◌≡◌ {A = Option (Option Specification × List ℕ)} (Some (None, rest)) (specification_at bytes)
    → shaped shape (ended specification_at bytes) ≡ whole → ◌≡◌ {A = Option (ShapeRecord × List ℕ)} (Some (shape, rest)) whole
unfolding shape_from
shape_done shape bytes rest whole read before = ap (shaped shape) (sym (ended_end specification_at specification_shortens bytes rest (sym read))) ∙ before

-- one cannot be read
pub shape_fails : (shape : ShapeRecord) (bytes : List ℕ) (whole : Option (ShapeRecord × List ℕ)) → specification_at bytes ≡ None
    → shaped shape (ended specification_at bytes) ≡ whole → None ≡ whole
shape_fails shape bytes whole read before = ap (shaped shape) (sym (ended_missing specification_at bytes read)) ∙ before
