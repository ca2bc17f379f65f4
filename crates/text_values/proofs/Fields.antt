-- Where a field ends.
use Rattle.std.proofs.Common.{◌≡◌, ◌∙◌, sym, ap, ap₂, subst, arith, lit<, ℕ, ◌<◌, List, [], ◌∷◌, length, ◌==◌, Option, Some, None, option_map, Bor}
use Rattle.std.specs.List.{position_or_len}
use Rattle.std.proofs.lemmas.List.Splits.{length-slice_split, slice_split_first, slice_split_none}
use Rattle.std.proofs.lemmas.List.Sums.{fails_before_first}
use Rattle.std.proofs.lemmas.Str.Pattern.{IsSplitOnceResult, split_once_first}
use Rattle.std.specs.Str.{IsUtf8, is_utf8}
use Rattle.std.proofs.lemmas.Bool.{cond-false, cond-true, false_from_ne_true}
use Rattle.std.proofs.lemmas.Str.{IsUtf8-from_is_utf8, is_utf8-from_IsUtf8}
use Rattle.text_values.specs.Lines.{Field, fields, fields_after, parts}

-- a text without a space is one part
one_part : (text : List ℕ) → position_or_len (λ b. b == 32) text ≡ length text → parts text ≡ text ∷ []
one_part text all = slice_split_none (λ b. b == 32) text (λ k d h. fails_before_first (λ b. b == 32) text k d (omega (arith, all)))

pub uncut : (text : List ℕ) (r : Option (Bor (List ℕ) × Bor (List ℕ))) → IsSplitOnceResult 32 text r → r ≡ None → text ∷ [] ≡ parts text
uncut text r h e =
    let k = split_once_first 32 text None (subst (λ q. IsSplitOnceResult 32 text q) e h) (lit< tt) in
    sym (one_part text k)

pub cut : (text : List ℕ) (r : Option (Bor (List ℕ) × Bor (List ℕ))) (x : Bor (List ℕ) × Bor (List ℕ)) → IsSplitOnceResult 32 text r → r ≡ Some x
    → x.0.now ∷ parts x.1.now ≡ parts text
cut text r x h e =
    let k = split_once_first 32 text (Some x) (subst (λ q. IsSplitOnceResult 32 text q) e h) (lit< tt) in
    ap₂ (λ a b. a ∷ parts b) k.1 k.2 ∙ sym (slice_split_first (λ b. b == 32) text 0 k.0)

-- a field, and those of what stands after it
pub cut_again : (text : List ℕ) (first : Field) (behind : Option (Bor (List ℕ))) (b : Bor (List ℕ)) (further : List Field)
    → first ∷ fields_after (option_map (λ r. r.now) behind) ≡ parts text → behind ≡ Some b → further ≡ parts b.now
    → first ∷ further ≡ parts text
cut_again text first behind b further cut is again =
    ap (λ fs. first ∷ fs) (again ∙ sym (ap (λ o. fields_after (option_map (λ r. r.now) o)) is)) ∙ cut

pub some_part : (text : List ℕ) → 0 < length (parts text)
some_part text = omega (arith, length-slice_split (λ b. b == 32) text)

-- the fields of a line that is a text, and of one that is none
pub text_fields : (line text : List ℕ) → (text ≡ line) × IsUtf8 line → parts text ≡ fields line
text_fields line text h = ap parts h.0 ∙ sym (cond-true (is_utf8 line) (parts line) [] (is_utf8-from_IsUtf8 line h.1))

pub no_fields : (line : List ℕ) → ¬ IsUtf8 line → [] ≡ fields line
no_fields line h = sym (cond-false (is_utf8 line) (parts line) [] (false_from_ne_true (is_utf8 line) (λ t. h (IsUtf8-from_is_utf8 line t))))
