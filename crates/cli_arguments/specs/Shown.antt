-- A word or a path as it is printed.
use Rattle.std.specs.Prelude.{ℕ, Bool, List, [], ◌∷◌, ◌++◌, ◌-◌, codes, encode_utf8, flat_map, if◌then◌else◌, length}
use Rattle.std.specs.Prelude.{nat_eq, take}
use Rattle.std.specs.{Char.is_control, List.ends_with, List.list_any, Str.chars}
use Rattle.text_values.specs.Words.{hex_digits}

-- a character as it is printed: one that controls a terminal as `\x` and its two hex digits
abbrev pub shown_character : ℕ → List ℕ
shown_character c = if is_control c then codes "\\x" ++ hex_digits 2 c else encode_utf8 c

unfoldable pub shown : List ℕ → List ℕ
shown text = flat_map shown_character (chars text)

-- a text without a line feed at its end
abbrev pub without_line_feed : List ℕ → List ℕ
without_line_feed text = if ends_with nat_eq text (10 ∷ []) then take (length text - 1) text else text

-- The text has a character that controls a terminal.
unfoldable pub has_control : List ℕ → Bool
has_control text = list_any is_control (chars text)
