-- Load commands: the division of the bytes after the header into commands (mach-o/loader.h).
use Rattle.std.specs.Prelude.{ℕ, suc, zero, Bool, true, ◌+◌, ◌*◌, List, [], ◌∷◌, ◌++◌, length}
use Rattle.std.specs.Prelude.{take, drop, ◌≡◌, ◌≤◌, ◌==◌, ◌&&◌, nat_le, if◌then◌else◌}
use Rattle.std.specs.List.{concat, AllByRecursion}
use Rattle.macho_image.specs.Layout.{u32_le_at, command_bytes, ncmds}

-- a command begins with load_command, eight bytes: cmd, and cmdsize, the size of the whole command
pub record IsCommand (command : List ℕ) : Type 0 where
  pub long : 8 ≤ length command
  pub sized : length command ≡ u32_le_at command 4

-- these are the first `count` commands of the bytes
pub record AreFirst (bytes : List ℕ) (count : ℕ) (commands : List (List ℕ)) : Type 0 where
  pub number : length commands ≡ count
  pub each : AllByRecursion IsCommand commands
  pub rest : List ℕ
  pub begins : bytes ≡ concat commands ++ rest

-- the bytes begin with `count` commands
abbrev pub HasFirst : List ℕ → ℕ → Type 0
HasFirst bytes count = (commands : List (List ℕ)) × AreFirst bytes count commands

-- load_command.cmd is LC_SEGMENT_64 (0x19)
abbrev pub is_segment : List ℕ → Bool
is_segment command = u32_le_at command 0 == 0x19

-- load_command.cmd is LC_UUID (0x1b)
abbrev pub is_uuid : List ℕ → Bool
is_uuid command = u32_le_at command 0 == 0x1b

-- load_command.cmd is LC_SYMTAB (0x2)
abbrev pub is_symtab : List ℕ → Bool
is_symtab command = u32_le_at command 0 == 0x2

-- segment_command_64.nsects: the number of its sections
abbrev pub nsects : List ℕ → ℕ
nsects segment = u32_le_at segment 64

-- a segment_command_64 with the sections after it: its offset in the image, in bytes, and its bytes
pub record SegmentRecord : Type 0 where
  pub offset : ℕ
  pub bytes : List ℕ

-- a command has at least eight bytes, a segment_command_64 (72 bytes) has room for each section_64 (80 bytes) after it,
-- and a uuid_command and a symtab_command have at least twenty-four bytes
pub record HasRoom (command : List ℕ) : Type 0 where
  pub long : 8 ≤ length command
  pub sections : is_segment command ≡ true → 72 + 80 * nsects command ≤ length command
  pub uuid : is_uuid command ≡ true → 24 ≤ length command
  pub symtab : is_symtab command ≡ true → 24 ≤ length command

-- the commands at the beginning of the bytes, at most `count` of them; laws.one_list_of_commands says that they are the
-- first ones
unfoldable pub first_commands : ℕ → List ℕ → List (List ℕ)
first_commands zero bytes = []
first_commands (suc count) bytes =
    let size = u32_le_at bytes 4 in
    if nat_le 8 size && nat_le 8 (length bytes) && nat_le size (length bytes)
    then take size bytes ∷ first_commands count (drop size bytes)
    else []

-- the load commands of an image
abbrev pub commands : List ℕ → List (List ℕ)
commands image = first_commands (ncmds image) (command_bytes image)
