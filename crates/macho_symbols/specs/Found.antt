-- The result of a search for symbols.
use Rattle.std.specs.Prelude.{ℕ, Bool, List, [], ◌-◌, ◌≡◌, Option, map, filter, nat_eq}
use Rattle.std.specs.Option.{option_map, option_map_or}
use Rattle.std.specs.Cmp.Lexicographic.{pointwise}
use Rattle.macho_image.specs.Sections.{section_of}
use Rattle.macho_symbols.specs.Symbols.{Tuple, candidates}
use Rattle.macho_symbols.specs.Nearest.{IsNearest}

-- a symbol that was found: its name and address, the distance from it to the address that was looked up, the number of
-- its section, and that section's names
pub record FoundRecord : Type 0 where
  pub name : List ℕ
  pub address : ℕ
  pub offset : ℕ
  pub sect : ℕ
  pub segment : List ℕ
  pub section : List ℕ

-- the result for a candidate in a search by address
unfoldable pub found_of : List ℕ → ℕ → Tuple → FoundRecord
found_of image address c = record {
  name = c.name;
  address = c.value;
  offset = address - c.value;
  sect = c.sect;
  segment = option_map_or (λ s. s.segment) (section_of image c.sect) [];
  section = option_map_or (λ s. s.section) (section_of image c.sect) [];
}

-- a search by address finds the nearest candidate, or nothing if there is none
abbrev pub FindsNearest : List ℕ → ℕ → Option FoundRecord → Type 0
FindsNearest image address found =
    (nearest : Option Tuple) × IsNearest image address nearest × (found ≡ option_map (found_of image address) nearest)

-- whether a candidate has the name
abbrev pub has_name : List ℕ → Tuple → Bool
has_name name c = pointwise nat_eq c.name name

-- the candidates with the name, each found at its own address
unfoldable pub named_among : List ℕ → List ℕ → List Tuple → List FoundRecord
named_among image name cs = map (λ c. found_of image c.value c) (filter (has_name name) cs)

-- the candidates with a name, in the order of the symbol table
abbrev pub named : List ℕ → List ℕ → List FoundRecord
named image name = named_among image name (candidates image)
