-- The address table of an image.
use Rattle.std.specs.Prelude.{ℕ, List, ◌≡◌}
use Rattle.macho_image.specs.declared.symtab_command.Symtab.{Symtab}
use Rattle.macho_symbols.specs.Symbols.{table_of, strings_of}
use Rattle.macho_symbols.specs.SectionPlaces.{ArePlaces}
use Rattle.macho_symbols.specs.Steps.{AreSteps}
use Rattle.macho_symbols.specs.NulPlaces.{AreNulPlaces}
use Rattle.macho_symbols.specs.declared.row.Row.{Row}

-- the contents of an address table
pub record TableParts : Type 0 where
  pub rows : List Row
  pub section_places : List ℕ
  pub nul_places : List ℕ
  pub symtab : Symtab

-- the table has the steps of the nearest candidates, the offsets of the sections, the NULs of the string table, and the
-- LC_SYMTAB of an image
pub record IsTableOf (table : TableParts) (image : List ℕ) : Type 0 where
  pub rows : AreSteps image table.rows
  pub section_places : ArePlaces image table.section_places
  pub nul_places : AreNulPlaces (strings_of image) table.nul_places
  pub symtab : table.symtab ≡ table_of image
