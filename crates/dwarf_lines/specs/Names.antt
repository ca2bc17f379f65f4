-- The names of directories and files in the header of a line number program (DWARF 5, section 6.2.4). A header with an
-- unreadable entry has no names.
use Rattle.std.specs.Prelude.{ℕ, Bool, true, false, List, [], ◌∷◌, ◌==◌, length, Option, Some, None, if◌then◌else◌}
use Rattle.std.specs.Option.{option_map, option_and_then, option_or, unwrap_or}
use Rattle.dwarf_encoding.specs.Leb128.{unsigned_leb128_at}
use Rattle.dwarf_encoding.specs.Text.{text_at}
use Rattle.dwarf_encoding.specs.Values.{ValueRecord, Constant, InlineString, Other}
use Rattle.dwarf_encoding.specs.FormNumbers.{DW_FORM_block, DW_FORM_data1, DW_FORM_data2, DW_FORM_data4, DW_FORM_data8}
use Rattle.dwarf_encoding.specs.FormNumbers.{DW_FORM_data16, DW_FORM_line_strp, DW_FORM_string, DW_FORM_strp}
use Rattle.dwarf_encoding.specs.FormNumbers.{DW_FORM_udata}
use Rattle.dwarf_encoding.specs.Forms.{is_one_of, value_at}
use Rattle.dwarf_encoding.specs.Sequences.{counted, ended}
use Rattle.dwarf_lines.specs.Header.{has_header, name_bytes, version}

-- a directory or a file: its name, and the index of the directory of a file
pub record NameRecord : Type 0 where
  pub name : ValueRecord
  pub directory : ℕ

-- the names of a header, in its order
pub record NamesRecord : Type 0 where
  pub version : ℕ
  pub directories : List NameRecord
  pub files : List NameRecord

-- the bytes after the name of a file: the index of its directory, its time and its length
unfoldable pub directory_index_at : List ℕ → Option (ℕ × List ℕ)
directory_index_at bytes =
    option_and_then
    (λ x. option_and_then (λ y. option_map (λ z. (x.0, z.1)) (unsigned_leb128_at y.1)) (unsigned_leb128_at x.1))
    (unsigned_leb128_at bytes)

-- the bytes after the name of a file or of an include directory; an include directory has none
abbrev pub directory_or_none_at : Bool → List ℕ → Option (ℕ × List ℕ)
directory_or_none_at is_file bytes = if is_file then directory_index_at bytes else Some (0, bytes)

-- versions 2 to 4: a file or an include directory; an empty name ends them
unfoldable pub listed_name_at : Bool → List ℕ → Option (Option NameRecord × List ℕ)
listed_name_at is_file bytes =
    option_and_then
    (λ x. if length x.0 == 0 then Some (None, x.1)
    else option_map (λ y. (Some (record { name = InlineString x.0; directory = y.0 }), y.1))
    (directory_or_none_at is_file x.1))
    (text_at bytes)

-- include_directories, then file_names
abbrev pub names_to_version_4 : ℕ → List ℕ → Option NamesRecord
names_to_version_4 version bytes =
    option_and_then
    (λ x. option_map (λ y. record { version = version; directories = x.0; files = y.0 })
    (ended (listed_name_at true) x.1))
    (ended (listed_name_at false) bytes)

-- version 5: a pair of an entry format is a content type code and a form
abbrev pub format_pair_at : List ℕ → Option ((ℕ × ℕ) × List ℕ)
format_pair_at bytes =
    option_and_then (λ x. option_map (λ y. ((x.0, y.0), y.1)) (unsigned_leb128_at x.1)) (unsigned_leb128_at bytes)

-- an entry format: the number of its pairs, one byte, and the pairs
abbrev pub format_at : List ℕ → Option (List (ℕ × ℕ) × List ℕ)
format_at [] = None
format_at (count ∷ bytes) = counted format_pair_at count bytes

-- a value of an entry, with one of the forms that a name may have
abbrev pub name_value_at : ℕ → List ℕ → Option (ValueRecord × List ℕ)
name_value_at form bytes =
    if is_one_of (DW_FORM_string ∷ DW_FORM_line_strp ∷ DW_FORM_strp ∷ DW_FORM_udata ∷ DW_FORM_data1 ∷ DW_FORM_data2 ∷
    DW_FORM_data4 ∷ DW_FORM_data8 ∷ DW_FORM_data16 ∷ DW_FORM_block ∷ []) form
    then value_at 5 form 0 bytes
    else None

-- the fields of an entry that are used here, if it has them: DW_LNCT_path (1) and DW_LNCT_directory_index (2)
pub record FieldsRecord : Type 0 where
  pub path : Option ValueRecord
  pub directory_index : Option ValueRecord

-- the fields with one more value; a second value of a content type is ignored
abbrev pub with_value : FieldsRecord → ℕ → ValueRecord → FieldsRecord
with_value fields content_type value =
    record {
      path = if content_type == 1 then option_or fields.path (Some value) else fields.path;
      directory_index =
          if content_type == 2 then option_or fields.directory_index (Some value) else fields.directory_index;
    }

-- the values of the pairs that are left, added to the values before them
unfoldable pub fields_from : FieldsRecord → List (ℕ × ℕ) → List ℕ → Option (FieldsRecord × List ℕ)
fields_from fields [] bytes = Some (fields, bytes)
fields_from fields (pair ∷ format) bytes =
    option_and_then (λ x. fields_from (with_value fields pair.0 x.0) format x.1) (name_value_at pair.1 bytes)

-- an index is a constant; without one it is 0
abbrev pub index_of : Option ValueRecord → ℕ
index_of (Some (Constant number)) = number
index_of _ = 0

-- the name and the index of an entry
abbrev pub name_of : FieldsRecord → NameRecord
name_of fields = record { name = unwrap_or fields.path Other; directory = index_of fields.directory_index }

-- an entry of a format; None if the format has no pairs
unfoldable pub entry_at : List (ℕ × ℕ) → List ℕ → Option (NameRecord × List ℕ)
entry_at format bytes =
    if length format == 0 then None
    else
    option_map (λ x. (name_of x.0, x.1))
    (fields_from (record { path = None; directory_index = None }) format bytes)

-- the entries of a table: their format, their number, and the entries
unfoldable pub entries_at : List ℕ → Option (List NameRecord × List ℕ)
entries_at bytes =
    option_and_then
    (λ x. option_and_then (λ y. counted (entry_at x.0) y.0 y.1) (unsigned_leb128_at x.1))
    (format_at bytes)

-- the directories, then the files
abbrev pub names_of_version_5 : List ℕ → Option NamesRecord
names_of_version_5 bytes =
    option_and_then
    (λ x. option_map (λ y. record { version = 5; directories = x.0; files = y.0 }) (entries_at x.1))
    (entries_at bytes)

-- the names of a unit that has a header
unfoldable pub names_of : List ℕ → Option NamesRecord
names_of unit =
    if has_header unit
    then (if version unit == 5 then names_of_version_5 (name_bytes unit)
    else names_to_version_4 (version unit) (name_bytes unit))
    else None
