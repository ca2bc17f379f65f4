-- Bytes that are no image have a fault: the walk over their commands, as a proof.
use Rattle.std.proofs.Common.{◌≡◌, ℕ, zero, suc, ◌+◌, List, [], ◌∷◌, ◌++◌, length, take, drop, Option, None, refl, sym, ◌⊎◌, inl, inr, arith}
use Rattle.std.specs.List.{list_any}
use Rattle.std.specs.Option.{option_or, is_some}
use Rattle.std.proofs.lemmas.List.{take-append-drop}
use Rattle.std.proofs.lemmas.Bool.{cases_lt, cases_Bool}
use Rattle.macho_image.specs.Layout.{u32_le_at, ncmds, command_bytes}
use Rattle.macho_image.specs.Commands.{IsCommand, is_uuid}
use Rattle.macho_image.specs.Inner.{HasNoCommand}
use Rattle.macho_image.specs.Contents.{uuid_among, symtab_among}
use Rattle.macho_image.specs.Fault.{header_fault, command_fault, IsFirstFault, AreCommands, IsImageFault, IsImage}
use Rattle.macho_image.specs.declared.fault.ImageFault.{ImageFault}
use Rattle.macho_image.specs.declared.fault.ImageFault.TheVariants.{BadCommand, NoUuid}
use Rattle.macho_image.specs.declared.symtab_command.Symtab.{Symtab}
use Rattle.macho_image.proofs.CommandFaults.{none_or_some}
use Rattle.macho_image.proofs.FirstCommands.{no_short_command, no_outside_command, no_command_in_few, command_of_size}
use Rattle.macho_image.proofs.Walk.{Reached, reached_start, reached_next, reached_fault, reached_end, reached_all}

-- bytes begin with a command
record IsCut (bytes : List ℕ) : Type 0 where
  command : List ℕ
  after : List ℕ
  whole : IsCommand command
  begins : bytes ≡ command ++ after

-- or with none
cut_or_none : (bytes : List ℕ) → IsCut bytes ⊎ HasNoCommand bytes
cut_or_none bytes = elim (cases_lt (length bytes) 8) [
  | inl few ↦ inr (no_command_in_few bytes few)
  | inr enough ↦ elim (cases_lt (u32_le_at bytes 4) 8) [
    | inl low ↦ inr (no_short_command bytes low)
    | inr high ↦ elim (cases_lt (length bytes) (u32_le_at bytes 4)) [
      | inl outside ↦ inr (no_outside_command bytes outside)
      | inr inside ↦ inl (record {
        command = take (u32_le_at bytes 4) bytes;
        after = drop (u32_le_at bytes 4) bytes;
        whole = command_of_size bytes (u32_le_at bytes 4) refl high inside;
        begins = sym (take-append-drop (u32_le_at bytes 4) bytes);
      })
    ]
  ]
]

-- a walk ends with a fault or with all commands
abbrev Ends : List ℕ → ℕ → Type 0
Ends area count = ((fault : ImageFault) × IsFirstFault area count fault) ⊎ ((commands : List (List ℕ)) × AreCommands area count commands)

walk_on : (steps : ℕ) (area : List ℕ) (index count : ℕ) (rest : List ℕ) (uuid : Option (List ℕ))
    (symtab : Option Symtab) → index + steps ≡ count → Reached area index rest uuid symtab → Ends area count
walk_on zero area index count rest uuid symtab e reached =
    let all = reached_all area index count rest uuid symtab reached (omega arith) in
    inr (all.commands, all.sound)
walk_on (suc steps) area index count rest uuid symtab e reached = elim (cut_or_none rest) [
  | inr none ↦ inl (BadCommand index, reached_end area index rest uuid symtab reached count (omega arith) none)
  | inl cut ↦ elim (none_or_some (command_fault index (is_some uuid) (is_some symtab) cut.command)) [
    | inl fine ↦
        walk_on steps area (index + 1) count cut.after (option_or uuid (uuid_among (cut.command ∷ [])))
        (option_or symtab (symtab_among (cut.command ∷ []))) (omega arith)
        (reached_next area index rest uuid symtab reached cut.command cut.after cut.whole cut.begins fine)
    | inr faulty ↦
        inl (faulty.0, reached_fault area index rest uuid symtab reached cut.command cut.after cut.whole cut.begins count faulty.0 (omega arith) faulty.1)
  ]
]

pub image_or_fault : (bytes : List ℕ) → IsImage bytes ⊎ ((fault : ImageFault) × IsImageFault bytes fault)
image_or_fault bytes = elim (none_or_some (header_fault bytes)) [
  | inl fine ↦ elim (walk_on (ncmds bytes) (command_bytes bytes) 0 (ncmds bytes) (command_bytes bytes) None None
      (omega arith) (reached_start (command_bytes bytes))) [
        | inl first ↦ inr (first.0, inr (inl (fine, first.1)))
        | inr all ↦ elim (cases_Bool (list_any is_uuid all.0)) [
          | inl h ↦ inl (record { header = fine; commands = all.0; sound = all.1; has_uuid = h })
          | inr h ↦ inr (NoUuid, inr (inr (fine, refl, all.0, all.1, h)))
        ]
      ]
  | inr faulty ↦ inr (faulty.0, inl faulty.1)
]
