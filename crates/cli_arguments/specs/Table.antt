-- The commands, each with its name and its arguments in the order of the words.
use Rattle.std.specs.Prelude.{Bool, false, List, [], ◌∷◌, codes, Option, find}
use Rattle.std.specs.{Option.option_map_or, Str.bytes_eq}
use Rattle.clap.specs.Words.{Text}
use Rattle.cli_arguments.specs.declared.commands.Form.TheVariants as forms
use Rattle.cli_arguments.specs.declared.commands.Kind.TheVariants as kinds
use Rattle.cli_arguments.specs.declared.commands.Role.TheVariants as roles
use Rattle.cli_arguments.specs.Arguments.{Argument, Flag, Often, Once, Perhaps, Several, Values, are_values_of}
use Rattle.cli_arguments.specs.Arguments.{argument}

pub record Signature : Type 0 where
  pub name : Text
  pub arguments : List Argument

abbrev pub signature : Text → List Argument → Signature
signature name arguments = record { name = name; arguments = arguments }

abbrev pub input_path : Argument
input_path = argument (codes "IN") Once (roles.Reads kinds.Archive)

abbrev pub archive_path : Argument
archive_path = argument (codes "ARCHIVE") Once (roles.Reads kinds.Archive)

-- further archives, searched together with the first
abbrev pub other_paths : Argument
other_paths = argument (codes "OTHER") (Often (codes "with")) (roles.Reads kinds.Archive)

-- the index of an archive, and those of several archives
abbrev pub index_path : Argument
index_path = argument (codes "INDEX") (Perhaps (codes "index")) (roles.Reads kinds.Index)

abbrev pub index_paths : Argument
index_paths = argument (codes "INDEX") (Often (codes "index")) (roles.Reads kinds.Index)

-- source lines are requested too
abbrev pub lines_flag : Argument
lines_flag = argument (codes "LINES") (Flag (codes "lines")) (roles.Says forms.Plain)

-- the slices that answer are requested too
abbrev pub slices_flag : Argument
slices_flag = argument (codes "SLICES") (Flag (codes "slices")) (roles.Says forms.Plain)

-- refused files are passed over
abbrev pub keep_going_flag : Argument
keep_going_flag = argument (codes "KEEP_GOING") (Flag (codes "keep-going")) (roles.Says forms.Plain)

abbrev pub out_path : Argument
out_path = argument (codes "OUT") Once roles.Writes

abbrev pub uuid_word : Argument
uuid_word = argument (codes "UUID") Once (roles.Says forms.Uuid)

abbrev pub arch_word : Argument
arch_word = argument (codes "ARCH") Once (roles.Says forms.Arch)

abbrev pub new_command : Signature
new_command = signature (codes "new") (out_path ∷ [])

abbrev pub admit_command : Signature
admit_command = signature (codes "admit")
    (input_path ∷ out_path ∷ keep_going_flag ∷ argument (codes "FILE") Several (roles.Reads kinds.File) ∷ [])

abbrev pub retire_command : Signature
retire_command = signature (codes "retire") (input_path ∷ out_path ∷ uuid_word ∷ arch_word
    ∷ argument (codes "DIGEST") Once (roles.Says forms.Digest) ∷ [])

abbrev pub merge_command : Signature
merge_command = signature (codes "merge")
    (input_path ∷ out_path ∷ argument (codes "FILE") Several (roles.Reads kinds.Archive) ∷ [])

abbrev pub migrate_command : Signature
migrate_command = signature (codes "migrate") (input_path ∷ out_path ∷ [])

abbrev pub apply_command : Signature
apply_command = signature (codes "apply")
    (input_path ∷ out_path ∷ argument (codes "OPS") Once (roles.Reads kinds.Ops) ∷ [])

abbrev pub find_command : Signature
find_command = signature (codes "find") (archive_path ∷ uuid_word ∷ other_paths ∷ index_paths ∷ [])

abbrev pub list_command : Signature
list_command = signature (codes "list") (archive_path ∷ index_path ∷ [])

abbrev pub extract_command : Signature
extract_command = signature (codes "extract") (archive_path ∷ uuid_word ∷ arch_word ∷ out_path
    ∷ argument (codes "DIGEST") (Perhaps (codes "digest")) (roles.Says forms.Digest) ∷ other_paths ∷ index_paths ∷ [])

abbrev pub name_command : Signature
name_command = signature (codes "name")
    (archive_path ∷ argument (codes "NAME") Once (roles.Says forms.Plain) ∷ other_paths ∷ [])

abbrev pub symbolicate_command : Signature
symbolicate_command = signature (codes "symbolicate") (archive_path ∷ uuid_word ∷ arch_word
    ∷ argument (codes "HEX") (Perhaps (codes "load")) (roles.Says forms.Number) ∷ lines_flag ∷ slices_flag
    ∷ other_paths ∷ index_paths ∷ argument (codes "ADDRESS") Several (roles.Says forms.Number) ∷ [])

abbrev pub frames_command : Signature
frames_command = signature (codes "frames")
    (argument (codes "FRAMES") Once (roles.Reads kinds.Frames) ∷ lines_flag ∷ slices_flag ∷ index_paths
    ∷ argument (codes "ARCHIVE") Several (roles.Reads kinds.Archive) ∷ [])

abbrev pub summary_command : Signature
summary_command = signature (codes "summary") (archive_path ∷ out_path ∷ index_path ∷ [])

abbrev pub index_command : Signature
index_command = signature (codes "index") (archive_path ∷ out_path ∷ [])

abbrev pub delta_command : Signature
delta_command = signature (codes "delta")
    (archive_path ∷ argument (codes "SUMMARY") Once (roles.Reads kinds.Summary) ∷ out_path ∷ [])

abbrev pub rehearse_command : Signature
rehearse_command = signature (codes "rehearse") (argument (codes "SCRIPT") Once (roles.Reads kinds.Script) ∷ [])

abbrev pub commands : List Signature
commands =
    new_command ∷ admit_command ∷ retire_command ∷ merge_command ∷ migrate_command ∷ apply_command
    ∷ find_command ∷ list_command ∷ extract_command ∷ name_command ∷ symbolicate_command ∷ frames_command
    ∷ summary_command ∷ index_command ∷ delta_command ∷ rehearse_command ∷ []

-- the command with this name, if there is one
abbrev pub signature_named : Text → Option Signature
signature_named name = find (λ s. bytes_eq name s.name) commands

abbrev pub arguments_named : Text → List Argument
arguments_named name = option_map_or (λ s. s.arguments) (signature_named name) []

-- there is a command with this name, and each of its arguments has its values
abbrev pub is_listed : Text → List Values → Bool
is_listed name values = option_map_or (λ s. are_values_of s.arguments values) (signature_named name) false
