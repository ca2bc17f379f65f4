-- Why bytes are no image: the fields of mach-o/loader.h that must be right in a thin 64-bit image.
use Rattle.std.specs.Prelude.{ℕ, Bool, true, false, List, [], ◌∷◌, ◌++◌, length, ◌≡◌, ◌+◌, ◌*◌, ◌<◌}
use Rattle.std.specs.Prelude.{◌&&◌, nat_lt, nat_eq, if◌then◌else◌, Option, Some, None, ◌⊎◌}
use Rattle.std.specs.List.{list_any, starts_with}
use Rattle.macho_image.specs.Layout.{magic, ncmds, sizeofcmds, command_bytes}
use Rattle.macho_image.specs.Commands.{AreFirst, HasFirst, is_segment, is_uuid, is_symtab, nsects}
use Rattle.macho_image.specs.declared.fault.ImageFault.{ImageFault}
use Rattle.macho_image.specs.declared.fault.ImageFault.TheVariants.{NotMachO64, HeaderTruncated, CommandsOutside}
use Rattle.macho_image.specs.declared.fault.ImageFault.TheVariants.{BadCommand, BadSegment, BadUuid, SecondUuid}
use Rattle.macho_image.specs.declared.fault.ImageFault.TheVariants.{BadSymtab, SecondSymtab, NoUuid, TooLarge}

-- the first fault of mach_header_64 (32 bytes)
abbrev pub header_fault : List ℕ → Option ImageFault
header_fault bytes =
    if nat_lt 4294967295 (length bytes) then Some TooLarge
    else if starts_with nat_eq bytes magic then
    (if nat_lt (length bytes) 32 then Some HeaderTruncated
    else if nat_lt (length bytes) (32 + sizeofcmds bytes) then Some CommandsOutside
    else None)
    else Some NotMachO64

-- the first fault of a segment_command_64, uuid_command or symtab_command with index i; has_uuid and has_symtab say
-- whether an LC_UUID and an LC_SYMTAB precede it
abbrev pub command_fault : ℕ → Bool → Bool → List ℕ → Option ImageFault
command_fault i has_uuid has_symtab command =
    if is_segment command && nat_lt (length command) (72 + 80 * nsects command) then Some (BadSegment i)
    else if is_uuid command && nat_lt (length command) 24 then Some (BadUuid i)
    else if is_uuid command && has_uuid then Some (SecondUuid i)
    else if is_symtab command && nat_lt (length command) 24 then Some (BadSymtab i)
    else if is_symtab command && has_symtab then Some (SecondSymtab i)
    else None

-- the fault at index i of the load commands: there is no command, or the command has this fault
abbrev pub IsFaultAt : List ℕ → ℕ → ImageFault → Type 0
IsFaultAt area i fault =
    ((HasFirst area (i + 1) → ⊥) × (fault ≡ BadCommand i))
    ⊎ ((before : List (List ℕ)) × (command : List ℕ) × AreFirst area (i + 1) (before ++ command ∷ [])
    × (command_fault i (list_any is_uuid before) (list_any is_symtab before) command ≡ Some fault))

-- no index below i has a fault
abbrev pub NoneBelow : List ℕ → ℕ → Type 0
NoneBelow area i = (j : ℕ) → j < i → (fault : ImageFault) → IsFaultAt area j fault → ⊥

-- this is the fault at the least index below count that has one
abbrev pub IsFirstFault : List ℕ → ℕ → ImageFault → Type 0
IsFirstFault area count fault = (i : ℕ) × (i < count) × NoneBelow area i × IsFaultAt area i fault

-- these are the first `count` commands, and none of them has a fault
abbrev pub AreCommands : List ℕ → ℕ → List (List ℕ) → Type 0
AreCommands area count commands = NoneBelow area count × AreFirst area count commands

-- why the bytes are no image: the fault of the header, else that of the first faulty command, else the lack of an
-- LC_UUID
abbrev pub IsImageFault : List ℕ → ImageFault → Type 0
IsImageFault bytes fault =
    (header_fault bytes ≡ Some fault)
    ⊎ ((header_fault bytes ≡ None) × IsFirstFault (command_bytes bytes) (ncmds bytes) fault)
    ⊎ ((header_fault bytes ≡ None) × (fault ≡ NoUuid) × (commands : List (List ℕ))
    × AreCommands (command_bytes bytes) (ncmds bytes) commands × (list_any is_uuid commands ≡ false))

-- the bytes are an image: they have no fault, as laws.one_fault says
pub record IsImage (bytes : List ℕ) : Type 0 where
  pub header : header_fault bytes ≡ None
  pub commands : List (List ℕ)
  pub sound : AreCommands (command_bytes bytes) (ncmds bytes) commands
  pub has_uuid : list_any is_uuid commands ≡ true
