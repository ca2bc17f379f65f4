-- The answers of the table of an entry.
use Rattle.std.specs.Prelude.{ℕ, List, Option}
use Rattle.table_checked_pages.specs.Pages.{MayBeStored}
use Rattle.table_symbols.specs.Found.{IsSaid}
use Rattle.table_symbols.specs.Steps.{AreBytes}
use Rattle.table_symbols.specs.Table.{IsTableText}
use Rattle.table_symbols.specs.declared.nearest.NearestSymbol.{NearestSymbol}
use Rattle.index_format.specs.Entry.{claim_in}

-- The answer of an entry for an address, for any bytes of the index: the nearest symbol of each slice whose table may
-- be stored where the entry says.
abbrev pub IsToldBy : List ℕ → List ℕ → ℕ → Option NearestSymbol → Type 0
IsToldBy text e address found = (slice table : List ℕ) → AreBytes slice → IsTableText slice table
    → MayBeStored text (claim_in e) table → IsSaid slice address found
