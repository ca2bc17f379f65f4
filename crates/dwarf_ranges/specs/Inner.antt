-- The first tuple that contains an address, by a search: a definition of inner functions. No contract of a public
-- function uses it.
use Rattle.std.specs.Prelude.{ℕ, List, [], ◌∷◌, ◌+◌, ◌&&◌, nat_le, nat_lt, if◌then◌else◌, Option, Some, None}
use Rattle.dwarf_ranges.specs.declared.arange.Arange.{Arange}

-- the first of these tuples that contains an address
unfoldable pub first_tuple : ℕ → List Arange → Option Arange
first_tuple a [] = None
first_tuple a (t ∷ ts) = if nat_le t.address a && nat_lt a (t.address + t.length) then Some t else first_tuple a ts
