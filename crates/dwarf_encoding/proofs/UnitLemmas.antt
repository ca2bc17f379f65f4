-- Units that stand one after another.
use Rattle.std.proofs.Common.{◌≡◌, ◌<◌, ◌≤◌, ◌&&◌, nat_le, ℕ, ◌+◌, ◌-◌, ◌==◌, cond, List, ◌∷◌, length, take, drop, Option, Some, None, sym, ap}
use Rattle.std.proofs.Common.{◌∙◌, inl, inr, arith, length-drop, nat_lt}
use Rattle.std.specs.Option.{option_or}
use Rattle.std.proofs.lemmas.Bool.{cases_Bool, ltb-false}
use Rattle.std.proofs.lemmas.Option.{none-some, option_and_then_some}
use Rattle.dwarf_encoding.specs.Forms.{split_at}
use Rattle.dwarf_encoding.specs.LittleEndian.{u32_le_at, u64_le_at}
use Rattle.dwarf_encoding.specs.Sequences.{Shortens, placed_from, item_at}
use Rattle.dwarf_encoding.specs.Units.{initial_length, is_64_bit, unit_at}
use Rattle.dwarf_encoding.proofs.SequenceLemmas.{placed_some, placed_missing, found_step}

-- an initial length has four bytes or more
length_within : (bytes : List ℕ) (x : ℕ × ℕ) → initial_length bytes ≡ Some x → (4 ≤ x.0) × (0 < length bytes)
unfolding initial_length
length_within bytes x e = elim (cases_Bool (nat_lt (length bytes) 4)) [
  | inl t ↦ let gone : None ≡ Some x = rw t at e in absurd (none-some x gone)
  | inr f ↦
      let some : 0 < length bytes = omega (arith, ltb-false (length bytes) 4 f) in
      elim (cases_Bool (nat_lt (u32_le_at bytes 0) 0xfffffff0)) [
        | inl t ↦
            let found : ◌≡◌ {A = Option (ℕ × ℕ)} (Some (4, u32_le_at bytes 0)) (Some x) = rw (f, t) at e in
            let same : (4, u32_le_at bytes 0) ≡ x = cc found in
            (omega (arith, ap (λ (y : ℕ × ℕ). y.0) same), some)
        | inr g ↦ elim (cases_Bool (is_64_bit bytes && nat_le 12 (length bytes))) [
          | inl t ↦
              let found : ◌≡◌ {A = Option (ℕ × ℕ)} (Some (12, u64_le_at bytes 4)) (Some x) = rw (f, g, t) at e in
              let same : (12, u64_le_at bytes 4) ≡ x = cc found in
              (omega (arith, ap (λ (y : ℕ × ℕ). y.0) same), some)
          | inr h ↦ let gone : None ≡ Some x = rw (f, g, h) at e in absurd (none-some x gone)
        ]
      ]
]

-- a unit has four bytes or more
pub unit_shortens : Shortens unit_at
unfolding unit_at
unit_shortens = record {
  less = λ bytes x e.
      option_and_then_some (λ (l : ℕ × ℕ). split_at (l.0 + l.1) bytes) (initial_length bytes) x e
      (λ l found after.
      elim (cases_Bool (nat_lt (length bytes) (l.0 + l.1))) [
        | inl t ↦ let gone : None ≡ Some x = rw t at after in absurd (none-some x gone)
        | inr f ↦
            let here : ◌≡◌ {A = Option (List ℕ × List ℕ)} (Some (take (l.0 + l.1) bytes, drop (l.0 + l.1) bytes)) (Some x) = rw f at after in
            let same : (take (l.0 + l.1) bytes, drop (l.0 + l.1) bytes) ≡ x = cc here in
            let within = length_within bytes l found in
            omega (arith, ap (λ (y : List ℕ × List ℕ). length y.1) same, length-drop (l.0 + l.1) bytes, within.0, within.1)
      ]);
}

-- a unit more in the table
pub table_step : (old new : Option (List ℕ)) (q size offset : ℕ) (bytes unit rest : List ℕ) (whole : Option (List ℕ))
    → ◌≡◌ {A = Option (List ℕ × List ℕ)} (Some (unit, rest)) (unit_at bytes)
    → offset ≡ size - length bytes → new ≡ cond (q == offset) (option_or old (Some unit)) old
    → option_or old (item_at q (placed_from unit_at size bytes)) ≡ whole → option_or new (item_at q (placed_from unit_at size rest)) ≡ whole
table_step old new q size offset bytes unit rest whole read place added before =
    found_step old new q offset unit (placed_from unit_at size rest) added
    ∙ ap (λ o. option_or old (item_at q ((o, unit) ∷ placed_from unit_at size rest))) place
    ∙ ap (λ items. option_or old (item_at q items)) (sym (placed_some unit_at unit_shortens size bytes (unit, rest) (sym read)))
    ∙ before

-- no unit more
pub table_done : (found : Option (List ℕ)) (q size : ℕ) (bytes : List ℕ) (whole : Option (List ℕ)) → unit_at bytes ≡ None
    → option_or found (item_at q (placed_from unit_at size bytes)) ≡ whole → found ≡ whole
table_done None q size bytes whole read before = ap (item_at q) (sym (placed_missing unit_at size bytes read)) ∙ before
table_done (Some u) q size bytes whole read before = before
