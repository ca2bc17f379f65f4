-- What the walk over the commands shows of the whole image.
use Rattle.std.proofs.Common.{◌≡◌, ℕ, zero, suc, ◌<◌, ◌≤◌, true, nat_le, ◌&&◌, List, [], ◌∷◌, ◌++◌, length, take, drop}
use Rattle.std.proofs.Common.{Option, Some, None, refl, sym, ap, ◌∙◌, inl, inr, arith, append_assoc, length-append}
use Rattle.std.proofs.Common.{unwrap_or, sub-one, ◌-◌}
use Rattle.std.specs.List.{concat, AllByRecursion}
use Rattle.std.specs.Option.{is_some}
use Rattle.std.proofs.lemmas.List.{take-append-drop}
use Rattle.std.proofs.Math.Seq.{take-append_seam, drop-append_seam}
use Rattle.std.proofs.lemmas.Bool.Decides.{nat_tests}
use Rattle.std.proofs.lemmas.Bool.{cases_Bool}
use Rattle.macho_image.specs.Layout.{u32_le_at, ncmds, command_bytes}
use Rattle.macho_image.specs.Commands.{IsCommand, AreFirst, first_commands, commands, is_uuid}
use Rattle.macho_image.specs.Inner.{HasNoCommand, AreContents}
use Rattle.macho_image.specs.Fault.{header_fault, IsFirstFault, AreCommands, IsImageFault}
use Rattle.macho_image.specs.Contents.{uuid_bytes, uuid_among, symtab_among, IsRead}
use Rattle.macho_image.specs.declared.fault.ImageFault.{ImageFault}
use Rattle.macho_image.specs.declared.fault.ImageFault.TheVariants.{NoUuid}
use Rattle.macho_image.specs.declared.symtab_command.Symtab.{Symtab}
use Rattle.macho_image.proofs.FirstCommands.{size_in_front, command_of_size}
use Rattle.macho_image.proofs.Walk.{is_some-found}

fits_in : (n m : ℕ) → 8 ≤ n → n ≤ m → (nat_le 8 n && nat_le 8 m && nat_le n m) ≡ true
fits_in n m low high = grind (arith, nat_tests)

pub fits_of : (n m : ℕ) → (nat_le 8 n && nat_le 8 m && nat_le n m) ≡ true → (8 ≤ n) × (n ≤ m)
fits_of n m h = grind (arith, nat_tests)

front_command : (count : ℕ) (area command after : List ℕ) → IsCommand command → area ≡ command ++ after
    → first_commands (suc count) area ≡ command ∷ first_commands count after
unfolding first_commands
front_command count area c after p e =
    let size : u32_le_at area 4 ≡ length c = size_in_front area c after p e in
    let long : length c ≤ length area = omega (arith, ap length e, length-append c after) in
    let test = fits_in (length c) (length area) p.long long in
    let front : take (length c) area ≡ c = ap (take (length c)) e ∙ take-append_seam c after in
    let behind : drop (length c) area ≡ after = ap (drop (length c)) e ∙ drop-append_seam c after in
    rw (size, test, front, behind) refl

cut_front : (count : ℕ) (cs : List (List ℕ)) (rest area : List ℕ) → length cs ≡ count → AllByRecursion IsCommand cs
    → area ≡ concat cs ++ rest → first_commands count area ≡ cs
unfolding first_commands
cut_front zero [] rest area h p e = refl
cut_front zero (c ∷ cs) rest area h p e = absurd (omega arith)
cut_front (suc count) [] rest area h p e = absurd (omega arith)
cut_front (suc count) (c ∷ cs) rest area h p e =
    front_command count area c (concat cs ++ rest) p.0 (e ∙ append_assoc c (concat cs) rest)
    ∙ ap (λ commands. c ∷ commands) (cut_front count cs rest (concat cs ++ rest) (omega arith) p.1 refl)

-- the first of the commands that are left
pub one_command : (count : ℕ) (area command after : List ℕ) → IsCommand command → area ≡ command ++ after → 0 < count
    → first_commands count area ≡ command ∷ first_commands (count - 1) after
one_command zero area c after p e h = absurd (omega arith)
one_command (suc count) area c after p e h = rw sub-one (front_command count area c after p e)

-- where none is left
pub no_command : (count : ℕ) (area : List ℕ) → count ≡ 0 → first_commands count area ≡ []
unfolding first_commands
no_command count area h = rw h refl

-- nor where none stands there
pub not_a_command : (count : ℕ) (area : List ℕ) → HasNoCommand area → first_commands count area ≡ []
unfolding first_commands
not_a_command zero area none = refl
not_a_command (suc count) area none = elim (cases_Bool (nat_le 8 (u32_le_at area 4) && nat_le 8 (length area) && nat_le (u32_le_at area 4) (length area))) [
  | inl h ↦
      let fits = fits_of (u32_le_at area 4) (length area) h in
      absurd (none (take (u32_le_at area 4) area) (drop (u32_le_at area 4) area)
      (command_of_size area (u32_le_at area 4) refl fits.0 fits.1) (sym (take-append-drop (u32_le_at area 4) area)))
  | inr h ↦ rw h refl
]

pub ruleset of_commands = (one_command, no_command, not_a_command)

-- the commands that the definition cuts are those in front
pub first_commands-front : (count : ℕ) (area : List ℕ) (cs : List (List ℕ)) → AreFirst area count cs → first_commands count area ≡ cs
first_commands-front count area cs front = cut_front count cs front.rest area front.number front.each front.begins

module _ (bytes area : List ℕ) (count : ℕ) (header : header_fault bytes ≡ None) (number : count ≡ ncmds bytes) (index : area ≡ command_bytes bytes) where
  -- a fault of the walk is that of the image
  pub faulty_walk : (fault : ImageFault) → IsFirstFault area count fault → IsImageFault bytes fault
  faulty_walk fault first = inr (inl (header, rw (index, number) at first))

  module _ (uuid : Option (List ℕ)) (symtab : Option Symtab) (read : AreContents area count uuid symtab) where
    here : AreCommands (command_bytes bytes) (ncmds bytes) read.commands
    here = rw (index, number) at read.sound

    -- as is the lack of a UUID
    pub no_uuid_walk : uuid ≡ None → IsImageFault bytes NoUuid
    no_uuid_walk none =
        inr (inr (header, refl, read.commands, here, sym (is_some-found uuid_bytes is_uuid read.commands) ∙ ap is_some (sym read.uuid_is ∙ none)))

    -- and what the walk found is what the image says
    pub sound_walk : (found : List ℕ) → uuid ≡ Some found → IsRead bytes found symtab
    sound_walk found u =
        let all : commands bytes ≡ read.commands = first_commands-front (ncmds bytes) (command_bytes bytes) read.commands here.1 in
        let first : Some found ≡ uuid_among read.commands = sym u ∙ read.uuid_is in
        record {
          sound = record {
            header = header;
            commands = read.commands;
            sound = here;
            has_uuid =
                sym (is_some-found uuid_bytes is_uuid read.commands) ∙ ap is_some (sym first);
          };
          room = rw all read.room;
          uuid_is = ap (λ o. unwrap_or o []) first ∙ ap (λ xs. unwrap_or (uuid_among xs) []) (sym all);
          symtab_is = read.symtab_is ∙ ap symtab_among (sym all);
        }
