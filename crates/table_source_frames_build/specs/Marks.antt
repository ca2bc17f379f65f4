-- The mark of a text, by which texts are distinguished before their bytes are compared.
use Rattle.std.specs.Prelude.{ℕ, List, ◌+◌, ◌*◌, ◌%◌, ◌^◌, fold}

-- the mark of a text with one more byte
abbrev pub mark_with : ℕ → ℕ → ℕ
mark_with mark byte = (mark * 1099511628211 % 2 ^ 64 + byte) % 2 ^ 64

-- the mark of a text
unfoldable pub mark_of : List ℕ → ℕ
mark_of text = fold mark_with 0 text
