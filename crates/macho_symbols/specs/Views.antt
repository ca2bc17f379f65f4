-- Candidates, results and symbols in the code, as the definitions have them.
use Rattle.std.specs.Prelude.{ℕ, List, ◌≡◌, ◌==◌}
use Rattle.std.specs.List.{before_first}
use Rattle.macho_image.specs.declared.symtab_command.Symtab.{Symtab}
use Rattle.macho_symbols.specs.Symbols.{Tuple, table_of, name_of}
use Rattle.macho_symbols.specs.Fault.{HasSymbols}
use Rattle.macho_symbols.specs.Found.{FoundRecord}
use Rattle.macho_symbols.specs.declared.name.Name.{Name}
use Rattle.macho_symbols.specs.declared.candidate.Candidate.{Candidate}
use Rattle.macho_symbols.specs.declared.found.Found.{Found}

-- the bytes of a name, which end before the first NUL or with the string table
abbrev pub name_view : Name → List ℕ
name_view n = before_first (λ b. b == 0) n.from.now

-- the parts of a candidate in the code that searches use, with its name from the string table
unfoldable pub tuple_of : List ℕ → Candidate → Tuple
tuple_of strings c = record { value = c.value; external = c.external; name = name_of strings c.n_strx; sect = c.sect }

-- a result, without the addresses of its names in memory
abbrev pub found_view : Found → FoundRecord
found_view f = record {
  name = f.name.now;
  address = f.address;
  offset = f.offset;
  sect = f.sect;
  segment = f.segment.now;
  section = f.section.now;
}

-- the symbols were read from an image, with this symbol table
pub record IsRead (image : List ℕ) (table : Symtab) : Type 0 where
  pub table_is : table ≡ table_of image
  pub sound : HasSymbols image
