-- Names as they are printed.
use Rattle.std.specs.Prelude.{ℕ, List, ◌∷◌, [], ◌++◌, Bool, ◌==◌, ◌||◌, nat_lt, if◌then◌else◌, codes}
use Rattle.std.specs.List.{flat_map}
use Rattle.text_values.specs.Words.{hex_digits}

-- a byte that is no printable ASCII character, or is the backslash
abbrev pub is_escaped : ℕ → Bool
is_escaped byte = nat_lt byte 0x20 || nat_lt 0x7e byte || (byte == 0x5c)

-- a byte of a name: itself, or `\x` and its two hex digits
unfoldable pub escaped_byte : ℕ → List ℕ
escaped_byte byte = if is_escaped byte then codes "\\x" ++ hex_digits 2 byte else byte ∷ []

-- a name of a symbol, a segment or a section
abbrev pub escaped : List ℕ → List ℕ
escaped name = flat_map escaped_byte name
