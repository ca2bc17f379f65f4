-- The results of a walk over load commands: definitions of inner functions. No contract of a public function uses them.
use Rattle.std.specs.Prelude.{◌≡◌, ◌≢◌, ◌++◌, ℕ, List, Option}
use Rattle.std.specs.List.{AllByRecursion}
use Rattle.macho_image.specs.Commands.{IsCommand, HasRoom}
use Rattle.macho_image.specs.Fault.{AreCommands}
use Rattle.macho_image.specs.Contents.{uuid_among, symtab_among}
use Rattle.macho_image.specs.declared.symtab_command.Symtab.{Symtab}

-- the bytes do not begin with a command
abbrev pub HasNoCommand : List ℕ → Type 0
HasNoCommand bytes = (command rest : List ℕ) → IsCommand command → bytes ≢ command ++ rest

-- the first `count` commands of the bytes have no fault, and they have this UUID and this symbol table
pub record AreContents (area : List ℕ) (count : ℕ) (uuid : Option (List ℕ)) (symtab : Option Symtab) : Type 0 where
  pub commands : List (List ℕ)
  pub sound : AreCommands area count commands
  pub room : AllByRecursion HasRoom commands
  pub uuid_is : uuid ≡ uuid_among commands
  pub symtab_is : symtab ≡ symtab_among commands
