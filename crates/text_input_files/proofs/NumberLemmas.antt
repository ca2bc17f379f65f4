-- Decimal numbers, and what `parse` reads.
use Rattle.std.proofs.Common.{◌≡◌, ◌≢◌, ◌∙◌, ◌<◌, ◌^◌, ◌&&◌, ◌||◌, ◌==◌, ℕ, Bool, true, not, sym, ap, arith, List}
use Rattle.std.proofs.Common.{length, get_or, nat_lt, Some, None, Result, Ok, Err, eq-eqb, zero, suc, lit<}
use Rattle.std.specs.Result.{OkIff, result_ok}
use Rattle.std.specs.Fmt.{decimal}
use Rattle.std.specs.Str.{all_ascii_digits}
use Rattle.std.specs.Str.Parse.{ParsesUnsigned, digits_value}
use Rattle.std.proofs.lemmas.Bool.{cond-false, cond-true, eqb-true, false_from_ne_true, lt-ltb, ltb-true}
use Rattle.std.proofs.lemmas.Fmt.{decimal-digits_value, decimal_digit, decimal_nonempty, digits_decimal, digits_value-decimal, first_decimal}
use Rattle.std.proofs.lemmas.Option.{cond_some}
use Rattle.std.proofs.lemmas.Str.Parse.{IsNumeralModel, numerals_by_value, parse_plain, tells_all_ascii_digits}
use Rattle.text_input_files.specs.Numbers.{is_decimal, number_of}

own : IsNumeralModel (λ ds. all_ascii_digits ds ≡ true) (digits_value 10)
own = numerals_by_value _ tells_all_ascii_digits

-- the parts of the test
all_parts : (a b c d e : Bool) → (((a && b) && (c || not d)) && e) ≡ true → (a ≡ true) × (b ≡ true) × (d ≡ true → c ≡ true) × (e ≡ true)
all_parts a b c d e h = (grind arith, grind arith, grind arith, grind arith)

parts_all : (a b c d e : Bool) → a ≡ true → b ≡ true → (d ≡ true → c ≡ true) → e ≡ true → (((a && b) && (c || not d)) && e) ≡ true
parts_all a b c d e p q h k = grind arith

read_by : {E : Type 0} (text : List ℕ) (r : Result ℕ E)
    → OkIff r ((all_ascii_digits text ≡ true) × (0 < length text) × (digits_value 10 text < 2 ^ 32)) (digits_value 10 text)
    → (get_or text 0 0 ≡ 48 → length text ≡ 1)
    → result_ok r ≡ number_of text
read_by text (Ok x) h alone =
    let v = digits_value 10 text in
    let fits : (is_decimal text && nat_lt v (2 ^ 32)) ≡ true =
    parts_all (all_ascii_digits text) (nat_lt 0 (length text)) (length text == 1) (get_or text 0 0 == 48)
    (nat_lt v (2 ^ 32))
    h.0.0 (lt-ltb 0 (length text) h.0.1) (λ e. eq-eqb (length text) 1 (alone (eqb-true (get_or text 0 0) 48 e))) (lt-ltb v (2 ^ 32) h.0.2) in
    ap Some h.1 ∙ sym (cond-true (is_decimal text && nat_lt v (2 ^ 32)) (Some v) None fits)
read_by text (Err e) h alone =
    let v = digits_value 10 text in
    let none = false_from_ne_true (is_decimal text && nat_lt v (2 ^ 32)) (λ t.
    let k = all_parts (all_ascii_digits text) (nat_lt 0 (length text)) (length text == 1) (get_or text 0 0 == 48) (nat_lt v (2 ^ 32)) t in
    h (k.0, ltb-true 0 (length text) k.1, ltb-true v (2 ^ 32) k.3)) in
    sym (cond-false (is_decimal text && nat_lt v (2 ^ 32)) (Some v) None none)

-- what `parse` reads of a text with no plus and no leading zero
pub read_plain : {E : Type 0} (text : List ℕ) (r : Result ℕ E) → ParsesUnsigned 32 10 text r
    → get_or text 0 0 ≢ 43
    → (get_or text 0 0 ≡ 48 → length text ≡ 1)
    → result_ok r ≡ number_of text
read_plain text r h plus alone = read_by text r (parse_plain own 32 text r h plus) alone

-- ---- numbers as they are printed

first_zero : (n : ℕ) → n < 2 ^ 64 → get_or (decimal n) 0 0 ≡ 48 → length (decimal n) ≡ 1
first_zero zero h e = ap length (decimal_digit 0 (lit< tt))
first_zero (suc n) h e = absurd (omega (arith, first_decimal (suc n) (omega arith) h, e))

pub printed : (n : ℕ) → n < 2 ^ 32 → number_of (decimal n) ≡ Some n
printed n small =
    let fits : n < 2 ^ 64 = omega (arith, small) in
    let is = digits_value-decimal own n fits in
    sym (read_by {E = ℕ} (decimal n) (Ok n) ((digits_decimal own n fits, decimal_nonempty n fits, omega (arith, is, small)), sym is) (first_zero n fits))

pub spelled : (field : List ℕ) (n : ℕ) → number_of field ≡ Some n → (n < 2 ^ 32) × (field ≡ decimal n)
spelled field n h =
    let v = digits_value 10 field in
    let k = cond_some (is_decimal field && nat_lt v (2 ^ 32)) v n h in
    let p = all_parts (all_ascii_digits field) (nat_lt 0 (length field)) (length field == 1) (get_or field 0 0 == 48) (nat_lt v (2 ^ 32)) k.0 in
    let small : v < 2 ^ 32 = ltb-true v (2 ^ 32) p.3 in
    let alone : get_or field 0 0 ≡ 48 → length field ≡ 1 = λ e. eqb-true (length field) 1 (p.2 (eq-eqb (get_or field 0 0) 48 e)) in
    let back = decimal-digits_value own field p.0 (ltb-true 0 (length field) p.1) alone (omega (arith, small)) in
    (omega (arith, small, k.1), sym back ∙ ap decimal k.1)
