-- Steps over the declarations of a section.
use Rattle.std.proofs.Common.{◌≡◌, ℕ, zero, suc, ◌-◌, ◌<◌, ◌≤◌, ◌==◌, ◌&&◌, cond, List, [], ◌∷◌, length, Option, Some}
use Rattle.std.proofs.Common.{None, refl, sym, ap, ◌∙◌, inl, inr, arith}
use Rattle.std.specs.Option.{option_map, option_or}
use Rattle.std.proofs.lemmas.Bool.{cases_Bool}
use Rattle.std.proofs.lemmas.Option.{option_and_then_some}
use Rattle.dwarf_encoding.specs.Leb128.{last_unsigned, unsigned_leb128_at}
use Rattle.dwarf_encoding.specs.Sequences.{Shortens, ended}
use Rattle.dwarf_encoding.proofs.SequenceLemmas.{none_or_some, ended_shorter, nothing, mapped as mapped_some}
use Rattle.dwarf_encoding.proofs.ShorterLemmas.{leb128_shorter}
use Rattle.dwarf_entries.specs.Specifications.{ShapeRecord, specification_at, empty_shape, shape_from, shaped, shape_at}
use Rattle.dwarf_entries.specs.Abbreviations.{DeclarationRecord, byte_at, declaration_body_at, declaration_at, declarations_within, declarations_from, declared}
use Rattle.dwarf_entries.proofs.SpecificationLemmas.{specification_shortens}

-- specifications have a byte
shape_shorter : (bytes : List ℕ) (x : ShapeRecord × List ℕ) → shape_at bytes ≡ Some x → length x.1 < length bytes
shape_shorter bytes x e = elim (none_or_some (ended specification_at bytes)) [
  | inl none ↦
      let gone : ◌≡◌ {A = Option (ShapeRecord × List ℕ)} None (Some x) = sym (ap (shaped empty_shape) none) ∙ e in
      cc gone
  | inr y ↦
      let found : ◌≡◌ {A = Option (ShapeRecord × List ℕ)} (Some (shape_from empty_shape y.0.0, y.0.1)) (Some x) = sym (ap (shaped empty_shape) y.1) ∙ e in
      let same : ◌≡◌ {A = ShapeRecord × List ℕ} (shape_from empty_shape y.0.0, y.0.1) x = cc found in
      omega (arith, ended_shorter specification_at specification_shortens bytes y.0 y.1, ap (λ (z : ShapeRecord × List ℕ). length z.1) same)
]

-- one byte
byte_shorter : (bytes : List ℕ) (x : ℕ × List ℕ) → byte_at bytes ≡ Some x → length x.1 < length bytes
byte_shorter [] x e = cc e
byte_shorter (b ∷ bs) x e =
    let same : ◌≡◌ {A = ℕ × List ℕ} (b, bs) x = cc e in
    omega (arith, ap (λ (z : ℕ × List ℕ). length z.1) same)

body_shorter : (bytes : List ℕ) (x : DeclarationRecord × List ℕ) → declaration_body_at bytes ≡ Some x → length x.1 < length bytes
unfolding declaration_body_at
body_shorter bytes x e =
    option_and_then_some _ (unsigned_leb128_at bytes) x e
    (λ y first more. option_and_then_some _ (byte_at y.1) x more
    (λ z second last.
    let w = mapped_some _ (shape_at z.1) x last in
    omega (
      arith,
      leb128_shorter last_unsigned bytes y first,
      byte_shorter y.1 z second,
      shape_shorter z.1 w.0 w.1,
      ap (λ (v : DeclarationRecord × List ℕ). length v.1) w.2,
    )))

-- a declaration has a byte
pub declaration_shortens : Shortens declaration_at
unfolding declaration_at
declaration_shortens = record {
  less = λ bytes x e.
      option_and_then_some _ (unsigned_leb128_at bytes) x e
      (λ y first more. elim (cases_Bool (y.0 == 0)) [
        | inl t ↦
            let here : ◌≡◌ {A = Option (Option (ℕ × DeclarationRecord) × List ℕ)} (Some (None, y.1)) (Some x) = rw t at more in
            let same : (None, y.1) ≡ x = cc here in
            omega (arith, leb128_shorter last_unsigned bytes y first, ap (λ (w : Option (ℕ × DeclarationRecord) × List ℕ). length w.1) same)
        | inr f ↦
            let here : option_map {U = Option (ℕ × DeclarationRecord) × List ℕ}
            (λ (z : DeclarationRecord × List ℕ). (Some (y.0, z.0), z.1)) (declaration_body_at y.1)
            ≡ Some x = rw f at more in
            let z = mapped_some _ (declaration_body_at y.1) x here in
            omega (
              arith,
              leb128_shorter last_unsigned bytes y first,
              body_shorter y.1 z.0 z.1,
              ap (λ (w : Option (ℕ × DeclarationRecord) × List ℕ). length w.1) z.2,
            )
      ]);
}

-- at most so many
within_missing : (count size table : ℕ) (bytes : List ℕ) → declaration_at bytes ≡ None → declarations_within count size table bytes ≡ []
unfolding declarations_within
within_missing zero size table bytes e = refl
within_missing (suc count) size table bytes e = rw e refl

within_some : (count size table : ℕ) (bytes rest : List ℕ) (d : ℕ × DeclarationRecord) → declaration_at bytes ≡ Some (Some d, rest)
    → declarations_within (suc count) size table bytes ≡ ((table, d.0), d.1) ∷ declarations_within count size table rest
unfolding declarations_within
within_some count size table bytes rest d e = rw e refl

within_end : (count size table : ℕ) (bytes rest : List ℕ) → declaration_at bytes ≡ Some (None, rest)
    → declarations_within (suc count) size table bytes ≡ declarations_within count size (size - length rest) rest
unfolding declarations_within
within_end count size table bytes rest e = rw e refl

-- as many as there are bytes are enough
same_within : (m n size table : ℕ) (bytes : List ℕ) → length bytes ≤ m → length bytes ≤ n
    → declarations_within m size table bytes ≡ declarations_within n size table bytes
same_within zero n size table [] k l = within_missing 0 size table [] (nothing declaration_at declaration_shortens)
    ∙ sym (within_missing n size table [] (nothing declaration_at declaration_shortens))
same_within zero n size table (b ∷ bytes) k l = absurd (omega arith)
same_within (suc m) zero size table [] k l = within_missing (suc m) size table []
    (nothing declaration_at declaration_shortens) ∙ sym
    (within_missing 0 size table [] (nothing declaration_at declaration_shortens))
same_within (suc m) zero size table (b ∷ bytes) k l = absurd (omega arith)
same_within (suc m) (suc n) size table bytes k l = elim (none_or_some (declaration_at bytes)) [
  | inl e ↦ within_missing (suc m) size table bytes e ∙ sym (within_missing (suc n) size table bytes e)
  | inr x ↦
      let less : length x.0.1 < length bytes = declaration_shortens.less bytes x.0 x.1 in
      elim (none_or_some x.0.0) [
        | inl none ↦
            let e : declaration_at bytes ≡ Some (None, x.0.1) = x.1 ∙ ap (λ (a : Option (ℕ × DeclarationRecord)). Some (a, x.0.1)) none in
            within_end m size table bytes x.0.1 e ∙ same_within m n size (size - length x.0.1) x.0.1 (omega arith)
            (omega arith) ∙ sym (within_end n size table bytes x.0.1 e)
        | inr d ↦
            let e : declaration_at bytes ≡ Some (Some d.0, x.0.1) = x.1 ∙ ap (λ (a : Option (ℕ × DeclarationRecord)). Some (a, x.0.1)) d.1 in
            within_some m size table bytes x.0.1 d.0 e
            ∙ ap (λ ds. ((table, d.0.0), d.0.1) ∷ ds) (same_within m n size table x.0.1 (omega arith) (omega arith))
            ∙ sym (within_some n size table bytes x.0.1 d.0 e)
      ]
]

from_some : (size table : ℕ) (bytes rest : List ℕ) (d : ℕ × DeclarationRecord) → declaration_at bytes ≡ Some (Some d, rest)
    → declarations_from size table bytes ≡ ((table, d.0), d.1) ∷ declarations_from size table rest
unfolding declarations_from
from_some size table [] rest d e = cc (nothing declaration_at declaration_shortens, e)
from_some size table (b ∷ bytes) rest d e =
    let less : length rest < suc (length bytes) = declaration_shortens.less (b ∷ bytes) (Some d, rest) e in
    within_some (length bytes) size table (b ∷ bytes) rest d e
    ∙ ap (λ ds. ((table, d.0), d.1) ∷ ds) (same_within (length bytes) (length rest) size table rest (omega arith) (omega arith))

from_end : (size table : ℕ) (bytes rest : List ℕ) → declaration_at bytes ≡ Some (None, rest)
    → declarations_from size table bytes ≡ declarations_from size (size - length rest) rest
unfolding declarations_from
from_end size table [] rest e = cc (nothing declaration_at declaration_shortens, e)
from_end size table (b ∷ bytes) rest e =
    let less : length rest < suc (length bytes) = declaration_shortens.less (b ∷ bytes) (None, rest) e in
    within_end (length bytes) size table (b ∷ bytes) rest e
    ∙ same_within (length bytes) (length rest) size (size - length rest) rest (omega arith) (omega arith)

from_missing : (size table : ℕ) (bytes : List ℕ) → declaration_at bytes ≡ None → declarations_from size table bytes ≡ []
unfolding declarations_from
from_missing size table bytes e = within_missing (length bytes) size table bytes e

-- what was found under a key, or is still to be found, where one more was found
found_step : (old new : Option DeclarationRecord) (table code : ℕ) (d : (ℕ × ℕ) × DeclarationRecord) (ds : List ((ℕ × ℕ) × DeclarationRecord))
    → new ≡ cond ((table == d.0.0) && (code == d.0.1)) (option_or old (Some d.1)) old
    → option_or new (declared table code ds) ≡ option_or old (declared table code (d ∷ ds))
found_step (Some x) new table code d ds h = elim (cases_Bool ((table == d.0.0) && (code == d.0.1))) [
  | inl t ↦ let here : new ≡ Some x = h ∙ rw t refl in rw here refl
  | inr f ↦ let here : new ≡ Some x = h ∙ rw f refl in rw here refl
]
found_step None new table code d ds h = elim (cases_Bool ((table == d.0.0) && (code == d.0.1))) [
  | inl t ↦ let here : new ≡ Some d.1 = h ∙ rw t refl in rw (here, t) refl
  | inr f ↦ let here : new ≡ None = h ∙ rw f refl in rw (here, f) refl
]

-- a step of the walk: a declaration
pub read_step : (old new : Option DeclarationRecord) (table code size place : ℕ) (d : ℕ × DeclarationRecord)
    (bytes rest : List ℕ) (whole : Option DeclarationRecord)
    → ◌≡◌ {A = Option (Option (ℕ × DeclarationRecord) × List ℕ)} (Some (Some d, rest)) (declaration_at bytes) → new
    ≡ cond ((table == place) && (code == d.0)) (option_or old (Some d.1)) old
    → option_or old (declared table code (declarations_from size place bytes)) ≡ whole
    → option_or new (declared table code (declarations_from size place rest)) ≡ whole
read_step old new table code size place d bytes rest whole read added before =
    found_step old new table code ((place, d.0), d.1) (declarations_from size place rest) added
    ∙ ap (λ ds. option_or old (declared table code ds)) (sym (from_some size place bytes rest d (sym read))) ∙ before

-- the end of a table
pub read_end : (old : Option DeclarationRecord) (table code size place next : ℕ) (bytes rest : List ℕ) (whole : Option DeclarationRecord)
    → ◌≡◌ {A = Option (Option (ℕ × DeclarationRecord) × List ℕ)} (Some (None, rest)) (declaration_at bytes) → next ≡ size - length rest
    → option_or old (declared table code (declarations_from size place bytes)) ≡ whole
    → option_or old (declared table code (declarations_from size next rest)) ≡ whole
read_end old table code size place next bytes rest whole read moved before =
    ap (λ n. option_or old (declared table code (declarations_from size n rest))) moved
    ∙ ap (λ ds. option_or old (declared table code ds)) (sym (from_end size place bytes rest (sym read))) ∙ before

-- one cannot be read
pub read_done : (old : Option DeclarationRecord) (table code size place : ℕ) (bytes : List ℕ) (whole : Option DeclarationRecord) → declaration_at bytes ≡ None
    → option_or old (declared table code (declarations_from size place bytes)) ≡ whole → old ≡ whole
read_done None table code size place bytes whole read before = ap (declared table code) (sym (from_missing size place bytes read)) ∙ before
read_done (Some x) table code size place bytes whole read before = before
