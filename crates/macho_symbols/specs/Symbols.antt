-- The symbols of an image: its symbol table, its string table, and the candidates among the entries (mach-o/nlist.h).
use Rattle.std.specs.Prelude.{ℕ, zero, suc, Bool, false, List, [], ◌∷◌, ◌==◌, ◌&&◌, ◌+◌, ◌*◌, nat_lt, length}
use Rattle.std.specs.Prelude.{take, drop, bit_and, Option, Some, None, unwrap_or, if◌then◌else◌}
use Rattle.std.specs.List.{before_first, filter_map}
use Rattle.std.specs.Option.{option_map_or}
use Rattle.macho_image.specs.Contents.{symtab_of}
use Rattle.macho_image.specs.Sections.{section_of, is_inside}
use Rattle.macho_image.specs.declared.symtab_command.Symtab.{Symtab}
use Rattle.macho_symbols.specs.Nlist.{n_strx, n_type, n_sect, n_value}

-- the offsets and sizes of the symbol table and the string table; all 0 if the image has no LC_SYMTAB
unfoldable pub table_of : List ℕ → Symtab
table_of image = unwrap_or (symtab_of image) (record { symoff = 0; nsyms = 0; stroff = 0; strsize = 0 })

-- the string table
unfoldable pub strings_of : List ℕ → List ℕ
strings_of image = take (table_of image).strsize (drop (table_of image).stroff image)

-- the name at an offset of the string table, up to its first NUL or the table's end; the name at 0, or past the end, is
-- empty
abbrev pub name_of : List ℕ → ℕ → List ℕ
name_of strings index = if index == 0 then [] else before_first (λ b. b == 0) (drop index strings)

-- the name of an entry
unfoldable pub name_in : List ℕ → List ℕ → List ℕ
name_in image entry = name_of (strings_of image) (n_strx entry)

-- whether an address is in the section with a number; it is in none for NO_SECT (0) or a number that the image lacks
unfoldable pub is_in_section : List ℕ → ℕ → ℕ → Bool
is_in_section image number address = option_map_or (is_inside address) (section_of image number) false

-- whether an entry is a candidate: no bit of N_STAB (0xe0) is set, its N_TYPE bits (0x0e) are N_SECT (0xe), its value
-- is in its section, and it has a name
unfoldable pub is_candidate : List ℕ → List ℕ → Bool
is_candidate image entry =
    (bit_and (n_type entry) 0xe0 == 0) && (bit_and (n_type entry) 0x0e == 0x0e)
    && is_in_section image (n_sect entry) (n_value entry) && nat_lt 0 (length (name_in image entry))

-- the parts of a candidate that searches use
pub record Tuple : Type 0 where
  pub value : ℕ
  pub external : Bool
  pub name : List ℕ
  pub sect : ℕ

-- the parts of an entry that searches use; it is external if its bit N_EXT (0x01) is set
unfoldable pub tuple_in : List ℕ → List ℕ → Tuple
tuple_in image entry =
    record {
      value = n_value entry;
      external = bit_and (n_type entry) 0x01 == 1;
      name = name_in image entry;
      sect = n_sect entry;
    }

-- the parts of an entry that searches use, if it is a candidate
unfoldable pub candidate_in : List ℕ → List ℕ → Option Tuple
candidate_in image entry = if is_candidate image entry then Some (tuple_in image entry) else None

-- the i-th entry of the symbol table
abbrev pub entry_of : List ℕ → ℕ → List ℕ
entry_of image i = take 16 (drop ((table_of image).symoff + 16 * i) image)

-- `count` entries, sixteen bytes each; laws.candidates_are_entries says that they are those of the symbol table
unfoldable pub entries : ℕ → List ℕ → List (List ℕ)
entries zero bytes = []
entries (suc count) bytes = take 16 bytes ∷ entries count (drop 16 bytes)

-- the entries of the symbol table
abbrev pub entries_of : List ℕ → List (List ℕ)
entries_of image = entries (table_of image).nsyms (drop (table_of image).symoff image)

-- the candidates of an image, in the order of its symbol table
unfoldable pub candidates : List ℕ → List Tuple
candidates image = filter_map (candidate_in image) (entries_of image)
