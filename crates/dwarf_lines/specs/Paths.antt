-- The paths of files (DWARF 5, sections 6.2.4 and 6.2.4.1).
use Rattle.std.specs.Prelude.{ℕ, List, [], ◌∷◌, ◌++◌, ◌-◌, ◌==◌, ◌||◌, Bool, false, length, slice_get, slice_index}
use Rattle.std.specs.Prelude.{Option, None, if◌then◌else◌}
use Rattle.std.specs.Option.{option_map, option_and_then, unwrap_or}
use Rattle.dwarf_encoding.specs.TextSections.{TextSectionsRecord, text_of}
use Rattle.dwarf_lines.specs.Names.{NameRecord, NamesRecord}

-- the name at an index: the first has the index 0 in version 5, and 1 in earlier versions
abbrev pub name_at : ℕ → List NameRecord → ℕ → Option NameRecord
name_at version names index =
    if version == 5 then slice_get names index
    else if index == 0 then None
    else slice_get names (index - 1)

-- the text of the directory at an index; empty if there is none
abbrev pub directory_text : TextSectionsRecord → NamesRecord → ℕ → List ℕ
directory_text sections names index =
    unwrap_or (option_and_then (λ d. text_of sections d.name) (name_at names.version names.directories index)) []

-- the directory of the compilation, to which the others are relative: directory 0 in version 5, DW_AT_comp_dir of the
-- unit in earlier versions
abbrev pub base_text : TextSectionsRecord → List ℕ → NamesRecord → List ℕ
base_text sections comp_dir names = if names.version == 5 then directory_text sections names 0 else comp_dir

-- the parts of a path
pub record PathRecord : Type 0 where
  pub base : List ℕ
  pub directory : List ℕ
  pub name : List ℕ

-- the parts of the path of the file at an index, if there is one and it has a name; directory 0 is the base
abbrev pub parts_of : TextSectionsRecord → List ℕ → NamesRecord → ℕ → Option PathRecord
parts_of sections comp_dir names index =
    option_and_then
    (λ file. option_map
    (λ text. record {
      base = base_text sections comp_dir names;
      directory = if file.directory == 0 then [] else directory_text sections names file.directory;
      name = text;
    })
    (text_of sections file.name))
    (name_at names.version names.files index)

-- an absolute path begins with / (47)
abbrev pub is_absolute : List ℕ → Bool
is_absolute [] = false
is_absolute (byte ∷ bytes) = byte == 47

-- one / separates a folder and a name
abbrev pub separator : List ℕ → List ℕ
separator folder = if slice_index folder (length folder - 1) == 47 then [] else 47 ∷ []

-- a name in a folder
abbrev pub in_folder : List ℕ → List ℕ → List ℕ
in_folder folder name =
    if is_absolute name || (length folder == 0) then name
    else if length name == 0 then folder
    else folder ++ separator folder ++ name

-- the path
abbrev pub path_of : PathRecord → List ℕ
path_of parts = in_folder (in_folder parts.base parts.directory) parts.name
