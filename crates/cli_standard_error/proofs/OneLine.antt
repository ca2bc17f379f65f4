-- A path as it is shown is one line.
use Rattle.std.proofs.Common.{◌≡◌, ◌∙◌, ℕ, ◌/◌, ◌%◌, ◌<◌, Bool, true, false, List, [], ◌∷◌, ◌++◌, ◌==◌, chars, codes, flat_map, refl, arith}
use Rattle.std.proofs.lemmas.{Bool.or_from, List.Folds.list_any-append}
use Rattle.std.specs.{Char.encode_utf8, Char.is_control, Fmt.digit_glyph, List.list_any}
use Rattle.text_values.specs.Words.{hex_digits}
use Rattle.cli_arguments.specs.Shown.{shown, shown_character}

-- a byte is a line feed
abbrev is_feed : ℕ → Bool
is_feed byte = byte == 10

abbrev IsFeedless : List ℕ → Type 0
IsFeedless text = list_any is_feed text ≡ false

joined : (front back : List ℕ) → IsFeedless front → IsFeedless back → IsFeedless (front ++ back)
joined front back first second =
    list_any-append is_feed front back ∙ or_from (list_any is_feed front) (list_any is_feed back) first second

above : (byte : ℕ) → 10 < byte → is_feed byte ≡ false
above byte is = grind arith

glyph : (digit : ℕ) → 10 < digit_glyph false digit
glyph digit = grind arith

of_escape : (byte : ℕ) → IsFeedless (codes "\\x" ++ hex_digits 2 byte)
unfolding hex_digits
of_escape byte =
    let high = above _ (glyph (byte / 16 % 16)) in
    let low = above _ (glyph (byte % 16)) in
    rw (high, low) refl

of_plain : (c : ℕ) → is_control c ≡ false → IsFeedless (encode_utf8 c)
unfolding encode_utf8
of_plain c is = grind arith

of_character : (c : ℕ) → IsFeedless (shown_character c)
of_character c = by_case (is_control c) refl where
  by_case : (control : Bool) → is_control c ≡ control → IsFeedless (shown_character c)
  by_case true is = rw is (of_escape c)
  by_case false is = rw is (of_plain c is)

of_characters : (text : List ℕ) → IsFeedless (flat_map shown_character text)
of_characters [] = refl
of_characters (c ∷ text) = joined (shown_character c) (flat_map shown_character text) (of_character c) (of_characters text)

pub feedless : (text : List ℕ) → list_any (λ byte. byte == 10) (shown text) ≡ false
unfolding shown
feedless text = of_characters (chars text)
