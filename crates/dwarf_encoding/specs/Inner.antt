-- The definitions of inner functions. No contract of a public function uses them.
use Rattle.std.specs.Prelude.{ℕ, List, [], ◌∷◌}
use Rattle.dwarf_encoding.specs.Leb128.{onto}

-- the number whose low bits are the low seven bits of each of these bytes, and whose high bits are those of another
-- number
unfoldable pub onto_high_bits : List ℕ → ℕ → ℕ
onto_high_bits [] high = high
onto_high_bits (b ∷ bs) high = onto b (onto_high_bits bs high)
