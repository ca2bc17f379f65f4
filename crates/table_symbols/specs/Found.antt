-- The result for an address in an image's table, with the names of the section.
use Rattle.std.specs.Prelude.{◌≡◌, ℕ, zero, suc, List, Option, Some, None, slice_get}
use Rattle.std.specs.Option.{option_map_or}
use Rattle.macho_image.specs.Layout.{name_at}
use Rattle.macho_symbols.specs.Symbols.{Tuple}
use Rattle.macho_symbols.specs.Nearest.{IsNearest}
use Rattle.macho_symbols.specs.Found.{FoundRecord}
use Rattle.table_symbols.specs.Table.{SectionNames, section_bytes, zeros}
use Rattle.table_symbols.specs.declared.found.OwnedFound.{OwnedFound}
use Rattle.table_symbols.specs.declared.nearest.NearestSymbol.{NearestSymbol}

-- the result is the nearest candidate, with its name, or that there is none
abbrev pub IsSaid : List ℕ → ℕ → Option NearestSymbol → Type 0
IsSaid image address None = IsNearest image address None
IsSaid image address (Some s) =
    (c : Tuple) × IsNearest image address (Some c) × (s.row.value ≡ c.value) × (s.row.sect ≡ c.sect)
    × (s.name.items ≡ c.name)

-- the names of the section with a number, from 1 on, in 32 bytes; zeros if there is no such section
abbrev pub names_at : List SectionNames → ℕ → List ℕ
names_at names zero = zeros 32
names_at names (suc i) = option_map_or section_bytes (slice_get names i) (zeros 32)

-- a result, as the definitions have it
abbrev pub owned_view : OwnedFound → FoundRecord
owned_view f = record {
  name = f.symbol.name.items;
  address = f.symbol.row.value;
  offset = f.offset;
  sect = f.symbol.row.sect;
  segment = name_at f.names 0;
  section = name_at f.names 16;
}
