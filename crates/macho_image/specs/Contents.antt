-- The statements of an image about itself (mach-o/loader.h).
use Rattle.std.specs.Prelude.{◌≡◌, ℕ, Bool, List, [], ◌==◌, ◌%◌, ◌^◌, take, drop, Option, unwrap_or}
use Rattle.std.specs.List.{find, AllByRecursion}
use Rattle.std.specs.Option.{option_map}
use Rattle.macho_image.specs.Layout.{u32_le_at, cputype, cpusubtype, filetype}
use Rattle.macho_image.specs.Commands.{commands, is_uuid, is_symtab, HasRoom}
use Rattle.macho_image.specs.Fault.{IsImage}
use Rattle.macho_image.specs.declared.symtab_command.Symtab.{Symtab}

-- uuid_command.uuid: sixteen bytes
abbrev pub uuid_bytes : List ℕ → List ℕ
uuid_bytes command = take 16 (drop 8 command)

-- the fields of symtab_command
abbrev pub symtab_fields : List ℕ → Symtab
symtab_fields command =
    record {
      symoff = u32_le_at command 8;
      nsyms = u32_le_at command 12;
      stroff = u32_le_at command 16;
      strsize = u32_le_at command 20;
    }

-- the UUID of the first LC_UUID among commands
abbrev pub uuid_among : List (List ℕ) → Option (List ℕ)
uuid_among commands = option_map uuid_bytes (find is_uuid commands)

-- the fields of the first LC_SYMTAB among commands
abbrev pub symtab_among : List (List ℕ) → Option Symtab
symtab_among commands = option_map symtab_fields (find is_symtab commands)

-- the UUID of an image
abbrev pub uuid_of : List ℕ → List ℕ
uuid_of image = unwrap_or (uuid_among (commands image)) []

-- the offsets and sizes of an image's symbol table and string table, if it has an LC_SYMTAB
abbrev pub symtab_of : List ℕ → Option Symtab
symtab_of image = symtab_among (commands image)

-- the architecture: the high byte of cpusubtype, CPU_SUBTYPE_MASK of mach/machine.h, holds capabilities and does not
-- count
abbrev pub arch_of : List ℕ → ℕ × ℕ
arch_of image = (cputype image, cpusubtype image % 2 ^ 24)

-- whether filetype is MH_DSYM (0xa), a companion file with only debug sections
abbrev pub is_dsym_image : List ℕ → Bool
is_dsym_image image = filetype image == 0xa

-- the bytes are an image, with this UUID and this symbol table
pub record IsRead (image : List ℕ) (uuid : List ℕ) (symtab : Option Symtab) : Type 0 where
  pub sound : IsImage image
  pub room : AllByRecursion HasRoom (commands image)
  pub uuid_is : uuid ≡ uuid_of image
  pub symtab_is : symtab ≡ symtab_of image
