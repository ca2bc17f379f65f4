-- Fewer bytes are left after a value.
use Rattle.std.proofs.Common.{◌≡◌, ℕ, ◌+◌, ◌<◌, ◌≤◌, Bool, true, false, List, [], ◌∷◌, length, take, drop, cond, Option}
use Rattle.std.proofs.Common.{Some, None, ap, inl, inr, arith, length-drop, nat_lt}
use Rattle.std.specs.List.{position_or_len, before_first, after_first}
use Rattle.std.specs.Option.{option_map, option_and_then}
use Rattle.std.proofs.lemmas.Bool.{cases_Bool, ltb-true}
use Rattle.std.proofs.lemmas.Option.{option_and_then_some, none-some}
use Rattle.dwarf_encoding.specs.Leb128.{onto, leb128_at, last_unsigned, last_signed, unsigned_leb128_at}
use Rattle.dwarf_encoding.specs.Text.{is_nul, text_at}
use Rattle.dwarf_encoding.specs.Values.{ValueRecord, Constant as Constant_, InlineString as InlineString_, Other as Other_}
use Rattle.dwarf_encoding.specs.Forms.{class_value, class_of, split_at, number_of_size, after_block, variable_value_at, fixed_size, sized_value_at, value_at}
use Rattle.dwarf_encoding.proofs.SequenceLemmas.{mapped as mapped_some}

-- a number has a byte
pub leb128_shorter : (last : ℕ → ℕ) (bytes : List ℕ) (x : ℕ × List ℕ) → leb128_at last bytes ≡ Some x → length x.1 < length bytes
unfolding leb128_at
leb128_shorter last [] x e = cc e
leb128_shorter last (b ∷ bs) x e = elim (cases_Bool (nat_lt b 128)) [
  | inl t ↦
      let found : ◌≡◌ {A = Option (ℕ × List ℕ)} (Some (last b, bs)) (Some x) = rw t at e in
      let same : (last b, bs) ≡ x = cc found in
      omega (arith, ap (λ (y : ℕ × List ℕ). length y.1) same)
  | inr f ↦
      let found : option_map (λ (y : ℕ × List ℕ). (onto b y.0, y.1)) (leb128_at last bs) ≡ Some x = rw f at e in
      let y = mapped_some _ (leb128_at last bs) x found in
      omega (arith, leb128_shorter last bs y.0 y.1, ap (λ (z : ℕ × List ℕ). length z.1) y.2)
]

-- a text has its NUL
pub text_shorter : (bytes : List ℕ) (x : List ℕ × List ℕ) → text_at bytes ≡ Some x → length x.1 < length bytes
text_shorter bytes x e = elim (cases_Bool (nat_lt (position_or_len is_nul bytes) (length bytes))) [
  | inl t ↦
      let found : ◌≡◌ {A = Option (List ℕ × List ℕ)} (Some (before_first is_nul bytes, after_first is_nul bytes)) (Some x) = rw t at e in
      let same : (before_first is_nul bytes, after_first is_nul bytes) ≡ x = cc found in
      omega (
        arith,
        ap (λ (y : List ℕ × List ℕ). length y.1) same,
        length-drop (position_or_len is_nul bytes + 1) bytes,
        ltb-true (position_or_len is_nul bytes) (length bytes) t,
      )
  | inr f ↦ let gone : None ≡ Some x = rw f at e in absurd (none-some x gone)
]

-- what is read leaves at most so many bytes
pub record Leaves {A : Type 0} (count : ℕ) (read : Option (A × List ℕ)) : Type 0 where
  pub most : (x : A × List ℕ) → read ≡ Some x → length x.1 ≤ count

pub leaves_nothing : {A : Type 0} (count : ℕ) → Leaves {A = A} count None
leaves_nothing count = record { most = λ x e. absurd (none-some x e) }

pub leaves_some : {A : Type 0} (v : A) (count : ℕ) (rest : List ℕ) → length rest ≤ count → Leaves count (Some (v, rest))
leaves_some v count rest h = record {
  most = λ x e.
      let same : (v, rest) ≡ x = cc e in
      omega (arith, ap (λ z. length z.1) same);
}

pub leaves_either : {A : Type 0} (b : Bool) (count : ℕ) (read other : Option (A × List ℕ)) → Leaves count read
    → Leaves count other → Leaves count (cond b read other)
leaves_either true count read other h k = h
leaves_either false count read other h k = k

-- a value that is made of a number
pub leaves_number : {A : Type 0} (last : ℕ → ℕ) (f : ℕ → A) (bytes : List ℕ) → Leaves (length bytes) (option_map (λ x. (f x.0, x.1)) (leb128_at last bytes))
leaves_number last f bytes = record {
  most = λ x e.
      let y = mapped_some (λ (z : ℕ × List ℕ). (f z.0, z.1)) (leb128_at last bytes) x e in
      omega (arith, leb128_shorter last bytes y.0 y.1, ap (λ z. length z.1) y.2);
}

leaves_text : (bytes : List ℕ) → Leaves (length bytes) (option_map (λ x. (InlineString_ x.0, x.1)) (text_at bytes))
leaves_text bytes = record {
  most = λ x e.
      let y = mapped_some (λ (z : List ℕ × List ℕ). (InlineString_ z.0, z.1)) (text_at bytes) x e in
      omega (arith, text_shorter bytes y.0 y.1, ap (λ (z : ValueRecord × List ℕ). length z.1) y.2);
}

-- so many bytes
split_shorter : (size : ℕ) (bytes : List ℕ) (x : List ℕ × List ℕ) → split_at size bytes ≡ Some x → length x.1 ≤ length bytes
split_shorter size bytes x e = elim (cases_Bool (nat_lt (length bytes) size)) [
  | inl t ↦ let gone : None ≡ Some x = rw t at e in absurd (none-some x gone)
  | inr f ↦
      let found : ◌≡◌ {A = Option (List ℕ × List ℕ)} (Some (take size bytes, drop size bytes)) (Some x) = rw f at e in
      let same : (take size bytes, drop size bytes) ≡ x = cc found in
      omega (arith, ap (λ (y : List ℕ × List ℕ). length y.1) same, length-drop size bytes)
]

-- a block
block_shorter : (size : ℕ) (bytes rest : List ℕ) → after_block size bytes ≡ Some rest → length rest ≤ length bytes
unfolding after_block
block_shorter size bytes rest e = elim (cases_Bool (nat_lt (length bytes) size)) [
  | inl t ↦ let gone : None ≡ Some rest = rw t at e in absurd (none-some rest gone)
  | inr f ↦
      let found : option_map (λ (x : List ℕ × List ℕ). x.1) (split_at (number_of_size size bytes) (drop size bytes)) ≡ Some rest = rw f at e in
      let y = mapped_some (λ (x : List ℕ × List ℕ). x.1) (split_at (number_of_size size bytes) (drop size bytes)) rest found in
      omega (arith, split_shorter (number_of_size size bytes) (drop size bytes) y.0 y.1, ap length y.2, length-drop size bytes)
]

leaves_block : (size : ℕ) (bytes : List ℕ) → Leaves (length bytes) (option_map (λ rest. (Other_, rest)) (after_block size bytes))
leaves_block size bytes = record {
  most = λ x e.
      let y = mapped_some (λ (rest : List ℕ). (Other_, rest)) (after_block size bytes) x e in
      omega (arith, block_shorter size bytes y.0 y.1, ap (λ (z : ValueRecord × List ℕ). length z.1) y.2);
}

leaves_expression : (bytes : List ℕ) → Leaves (length bytes)
    (option_and_then (λ x. option_map (λ y. (Other_, y.1)) (split_at x.0 x.1)) (unsigned_leb128_at bytes))
leaves_expression bytes = record {
  most = λ x e.
      option_and_then_some (λ (z : ℕ × List ℕ). option_map (λ (y : List ℕ × List ℕ). (Other_, y.1)) (split_at z.0 z.1)) (unsigned_leb128_at bytes) x e
      (λ z found after.
      let y = mapped_some (λ (y : List ℕ × List ℕ). (Other_, y.1)) (split_at z.0 z.1) x after in
      omega (arith, leb128_shorter last_unsigned bytes z found, split_shorter z.0 z.1 y.0 y.1, ap (λ (w : ValueRecord × List ℕ). length w.1) y.2));
}

leaves_variable : (form : ℕ) (bytes : List ℕ) → Leaves (length bytes) (variable_value_at form bytes)
unfolding variable_value_at
leaves_variable form bytes =
    leaves_either _ _ _ _ (leaves_number last_unsigned (λ n. class_value (class_of form) n) bytes) (
    leaves_either _ _ _ _ (leaves_number last_signed (λ n. Constant_ n) bytes) (
    leaves_either _ _ _ _ (leaves_text bytes) (
    leaves_either _ _ _ _ (leaves_block 1 bytes) (
    leaves_either _ _ _ _ (leaves_block 2 bytes) (
    leaves_either _ _ _ _ (leaves_block 4 bytes) (
    leaves_either _ _ _ _ (leaves_expression bytes) (leaves_nothing (length bytes))))))))

leaves_sized : (size : Option ℕ) (form : ℕ) (bytes : List ℕ) → Leaves (length bytes) (sized_value_at size form bytes)
leaves_sized None form bytes = leaves_variable form bytes
leaves_sized (Some size) form bytes =
    leaves_either _ _ _ _ (leaves_nothing (length bytes)) (leaves_some _ (length bytes) (drop size bytes) (omega (arith, length-drop size bytes)))

leaves_value : (version form implicit : ℕ) (bytes : List ℕ) → Leaves (length bytes) (value_at version form implicit bytes)
unfolding value_at
leaves_value version form implicit bytes =
    leaves_either _ _ _ _ (leaves_some _ (length bytes) bytes (omega arith)) (leaves_sized (fixed_size version form) form bytes)

-- a value has no byte or more
pub value_shorter : (version form implicit : ℕ) (bytes : List ℕ) (x : ValueRecord × List ℕ)
    → value_at version form implicit bytes ≡ Some x → length x.1 ≤ length bytes
value_shorter version form implicit bytes x e = (leaves_value version form implicit bytes).most x e
