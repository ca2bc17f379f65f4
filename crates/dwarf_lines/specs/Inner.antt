-- Definitions of inner functions. No contract of a public function uses them.
use Rattle.std.specs.Prelude.{ℕ, List, [], ◌∷◌, Bool, not, ◌&&◌, nat_le, nat_lt, Option, Some, None, if◌then◌else◌}
use Rattle.dwarf_lines.specs.declared.registers.Row.{Row}

-- whether a row covers an address, if it is followed by another one
abbrev pub covers : ℕ → Row → Row → Bool
covers address row next =
    not row.end_sequence && nat_le row.registers.address address && nat_lt address next.registers.address

-- the row before, if there is one and it covers the address
abbrev pub covered : ℕ → Option Row → Row → Option Row
covered address None next = None
covered address (Some row) next = if covers address row next then Some row else None

-- the first row that covers an address, among these rows and the one before them
unfoldable pub covering_after : ℕ → Row → List Row → Option Row
covering_after address row [] = None
covering_after address row (next ∷ rows) =
    if covers address row next then Some row else covering_after address next rows

-- the first row that covers an address, among these rows and the one before them, if there is one
abbrev pub covering_with : ℕ → Option Row → List Row → Option Row
covering_with address None [] = None
covering_with address None (row ∷ rows) = covering_after address row rows
covering_with address (Some row) rows = covering_after address row rows
