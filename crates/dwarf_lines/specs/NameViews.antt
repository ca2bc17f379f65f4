-- Names in the code, as the definitions have them.
use Rattle.std.specs.Prelude.{map}
use Rattle.std.specs.Option.{option_map}
use Rattle.dwarf_encoding.specs.Views.{value_view}
use Rattle.dwarf_lines.specs.Names.{NameRecord, NamesRecord, FieldsRecord}
use Rattle.dwarf_lines.specs.declared.names.Name.{Name}
use Rattle.dwarf_lines.specs.declared.names.Names.{Names}
use Rattle.dwarf_lines.specs.declared.name_entries.Fields.{Fields}

-- a name, without the address of its text in memory
abbrev pub name_view : Name → NameRecord
name_view n = record { name = value_view n.name; directory = n.directory }

-- the names of a header, without the addresses of their texts in memory
abbrev pub names_view : Names → NamesRecord
names_view n =
    record {
      version = n.version;
      directories = map (λ d. name_view d) n.directories.items;
      files = map (λ f. name_view f) n.files.items;
    }

-- the fields of an entry
abbrev pub fields_view : Fields → FieldsRecord
fields_view f =
    record { path = option_map value_view f.path; directory_index = option_map value_view f.directory_index }
