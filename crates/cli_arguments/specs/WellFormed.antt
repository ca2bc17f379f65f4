-- Tables of commands whose commands can be distinguished.
use Rattle.std.specs.Prelude.{Bool, true, false, not, ◌&&◌, ◌||◌, List, [], ◌∷◌, map, codes, count_by, flat_map, nat_le}
use Rattle.std.specs.{List.list_all, List.list_any, Str.bytes_eq}
use Rattle.clap.specs.{Words.Text, Walk.is_empty}
use Rattle.cli_arguments.specs.Arguments.{Argument, Count, Flag, Often, Perhaps, Several, reads, writes}
use Rattle.cli_arguments.specs.Table.{Signature}

-- no text occurs twice
abbrev pub are_apart : List Text → Bool
are_apart [] = true
are_apart (text ∷ texts) = not (list_any (λ other. bytes_eq other text) texts) && are_apart texts

-- the names of options
abbrev pub options_of : Count → List Text
options_of (Perhaps option) = option ∷ []
options_of (Often option) = option ∷ []
options_of (Flag option) = option ∷ []
options_of _ = []

-- only the last argument has several words
abbrev pub is_several : Count → Bool
is_several Several = true
is_several _ = false

abbrev pub is_several_last : List Argument → Bool
is_several_last [] = true
is_several_last (a ∷ rest) = (is_empty rest || not (is_several a.count)) && is_several_last rest

-- a flag is not a path
abbrev pub is_flag : Count → Bool
is_flag (Flag option) = true
is_flag _ = false

abbrev pub flag_is_no_path : Argument → Bool
flag_is_no_path a = not (is_flag a.count) || not (reads a.role || writes a.role)

-- the arguments can be distinguished, no flag is a path, and at most one is OUT
abbrev pub is_well_formed : Signature → Bool
is_well_formed s = are_apart (map (λ a. a.name) s.arguments)
    && (are_apart (codes "help" ∷ flat_map (λ a. options_of a.count) s.arguments)
    && (is_several_last s.arguments && (list_all flag_is_no_path s.arguments
    && nat_le (count_by (λ a. writes a.role) s.arguments) 1)))

-- the same for the commands
abbrev pub are_well_formed : List Signature → Bool
are_well_formed table =
    are_apart (codes "help" ∷ map (λ s. s.name) table) && list_all is_well_formed table
