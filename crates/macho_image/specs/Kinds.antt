-- The load commands of an image by their kinds, and the segments among them (mach-o/loader.h).
use Rattle.std.specs.Prelude.{ℕ, ◌+◌, List, [], ◌∷◌, length, Option, Some, None, if◌then◌else◌}
use Rattle.std.specs.List.{filter_map}
use Rattle.macho_image.specs.Commands.{SegmentRecord, commands, is_segment, is_uuid, is_symtab}
use Rattle.macho_image.specs.Contents.{uuid_bytes, symtab_fields}
use Rattle.macho_image.specs.declared.load_command.LoadCommand.{LoadCommand}
use Rattle.macho_image.specs.declared.load_command.LoadCommand.TheVariants.{Uuid, Segment, Symtab, Other}

-- the command with these bytes, which are at an offset of the image, by its cmd
unfoldable pub load_command : ℕ → List ℕ → LoadCommand
load_command offset command =
    if is_segment command then Segment (record { offset = offset; bytes = command })
    else if is_uuid command then Uuid (uuid_bytes command)
    else if is_symtab command then Symtab (symtab_fields command)
    else Other

-- consecutive commands, the first at this offset
unfoldable pub load_commands_from : ℕ → List (List ℕ) → List LoadCommand
load_commands_from offset [] = []
load_commands_from offset (command ∷ commands) =
    load_command offset command ∷ load_commands_from (offset + length command) commands

-- the load commands of an image, which follow its header of 32 bytes
abbrev pub load_commands : List ℕ → List LoadCommand
load_commands image = load_commands_from 32 (commands image)

-- the segment of a load command; None if the command is of another kind
abbrev pub segment_of : LoadCommand → Option SegmentRecord
segment_of (Uuid uuid) = None
segment_of (Segment segment) = Some segment
segment_of (Symtab symtab) = None
segment_of Other = None

-- the segments of an image, in the order of its load commands
abbrev pub segments : List ℕ → List SegmentRecord
segments image = filter_map segment_of (load_commands image)
