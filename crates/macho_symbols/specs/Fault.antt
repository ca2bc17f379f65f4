-- Why the symbols of an image cannot be read: its LC_SYMTAB names bytes outside the image (mach-o/loader.h).
use Rattle.std.specs.Prelude.{ℕ, List, length, ◌≡◌, ◌+◌, ◌*◌, ◌&&◌, Bool, nat_lt, if◌then◌else◌, Option, Some, None}
use Rattle.macho_symbols.specs.Symbols.{table_of}
use Rattle.macho_symbols.specs.declared.fault.SymbolFault.{SymbolFault}
use Rattle.macho_symbols.specs.declared.fault.SymbolFault.TheVariants.{SymbolsOutside, StringsOutside}

-- there are entries, and the nsyms times sixteen bytes from symoff on pass the end
abbrev pub are_symbols_outside : List ℕ → Bool
are_symbols_outside image =
    nat_lt 0 (table_of image).nsyms && nat_lt (length image) ((table_of image).symoff + 16 * (table_of image).nsyms)

-- there are strings, and the strsize bytes from stroff on pass the end
abbrev pub are_strings_outside : List ℕ → Bool
are_strings_outside image =
    nat_lt 0 (table_of image).strsize && nat_lt (length image) ((table_of image).stroff + (table_of image).strsize)

-- the first fault of the tables
abbrev pub symbol_fault : List ℕ → Option SymbolFault
symbol_fault image =
    if are_symbols_outside image then Some SymbolsOutside
    else if are_strings_outside image then Some StringsOutside
    else None

-- why the symbols of the image cannot be read
abbrev pub IsSymbolFault : List ℕ → SymbolFault → Type 0
IsSymbolFault image fault = symbol_fault image ≡ Some fault

-- the symbols of the image can be read: the tables have no fault, as laws.one_symbol_fault says
pub record HasSymbols (image : List ℕ) : Type 0 where
  pub fine : symbol_fault image ≡ None
