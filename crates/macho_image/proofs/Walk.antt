-- How far a walk over the load commands has come, and what it shows where it ends.
use Rattle.std.proofs.Common.{◌≡◌, ℕ, ◌+◌, ◌<◌, Bool, List, [], ◌∷◌, ◌++◌, length, Option, Some, None, refl, sym, ap}
use Rattle.std.proofs.Common.{◌∙◌, inl, inr, arith, append_assoc, length-append, below_more, subst}
use Rattle.std.specs.List.{concat, AllByRecursion, list_any, find}
use Rattle.std.specs.Option.{option_map, option_or, is_some}
use Rattle.std.proofs.lemmas.List.{append-nil, same_from_push}
use Rattle.std.proofs.lemmas.List.Folds.{concat-append, find-append}
use Rattle.macho_image.specs.Commands.{IsCommand, AreFirst, HasRoom, is_uuid, is_symtab}
use Rattle.macho_image.specs.Inner.{HasNoCommand, AreContents}
use Rattle.macho_image.specs.Fault.{command_fault, IsFaultAt, NoneBelow, IsFirstFault}
use Rattle.macho_image.specs.Contents.{uuid_bytes, symtab_fields, uuid_among, symtab_among}
use Rattle.macho_image.specs.declared.fault.ImageFault.{ImageFault}
use Rattle.macho_image.specs.declared.fault.ImageFault.TheVariants.{BadCommand}
use Rattle.macho_image.specs.declared.symtab_command.Symtab.{Symtab}
use Rattle.macho_image.proofs.FirstCommands.{fronts_agree, one_list_of_commands}
use Rattle.macho_image.proofs.CommandFaults.{room_of}

-- Before this place stand commands without a fault, the rest is after them, and they say this.
pub record Reached (area : List ℕ) (index : ℕ) (rest : List ℕ) (uuid : Option (List ℕ)) (symtab : Option Symtab) : Type 0 where
  pub before : List (List ℕ)
  pub number : length before ≡ index
  pub each : AllByRecursion IsCommand before
  pub begins : area ≡ concat before ++ rest
  pub fine : NoneBelow area index
  pub room : AllByRecursion HasRoom before
  pub uuid_is : uuid ≡ uuid_among before
  pub symtab_is : symtab ≡ symtab_among before

-- what is found in a list is there
pub is_some-found : {X : Type 0} (f : List ℕ → X) (p : List ℕ → Bool) (xs : List (List ℕ)) → is_some (option_map f (find p xs)) ≡ list_any p xs
is_some-found f p [] = refl
is_some-found f p (x ∷ xs) = grind (arith, is_some-found f p xs)

-- what two lists say, the first one first
found-append : {X : Type 0} (f : List ℕ → X) (p : List ℕ → Bool) (xs ys : List (List ℕ))
    → option_map f (find p (xs ++ ys)) ≡ option_or (option_map f (find p xs)) (option_map f (find p ys))
found-append f p xs ys = ap (option_map f) (find-append p xs ys) ∙ grind arith

-- one more command
each_more : (P : List ℕ → Type 0) (xs : List (List ℕ)) (x : List ℕ) → AllByRecursion P xs → P x → AllByRecursion P (xs ++ x ∷ [])
each_more P [] x h p = (p, tt)
each_more P (y ∷ xs) x h p = (h.0, each_more P xs x h.1 p)

module _ (area : List ℕ) (index : ℕ) (rest : List ℕ) (uuid : Option (List ℕ)) (symtab : Option Symtab) (reached : Reached area index rest uuid symtab) where
  -- what was seen, as a list has it
  seen_uuid : is_some uuid ≡ list_any is_uuid reached.before
  seen_uuid = ap is_some reached.uuid_is ∙ is_some-found uuid_bytes is_uuid reached.before

  seen_symtab : is_some symtab ≡ list_any is_symtab reached.before
  seen_symtab = ap is_some reached.symtab_is ∙ is_some-found symtab_fields is_symtab reached.before

  -- where no command is left, that is the first fault
  pub reached_end : (count : ℕ) → index < count → HasNoCommand rest → IsFirstFault area count (BadCommand index)
  reached_end count h none = (
    index,
    h,
    reached.fine,
    inl (
      (λ front.
          let found = fronts_agree reached.before front.0 rest front.1.rest reached.each front.1.each
          (sym reached.begins ∙ front.1.begins) (omega (arith, reached.number, front.1.number)) in
          no_more found.0 front.1.rest (omega (
            arith,
            reached.number,
            front.1.number,
            ap length found.1,
            length-append reached.before found.0,
          )) found.2 found.3),
      refl,
    ),
  )
    where
      no_more : (zs : List (List ℕ)) (t : List ℕ) → 0 < length zs → AllByRecursion IsCommand zs → rest ≡ concat zs ++ t → ⊥
      no_more [] t h p e = absurd (omega arith)
      no_more (z ∷ zs) t h p e = none z (concat zs ++ t) p.0 (e ∙ append_assoc z (concat zs) t)

  module _ (command after : List ℕ) (whole : IsCommand command) (cut : rest ≡ command ++ after) where
    -- the commands with this one
    front_more : AreFirst area (index + 1) (reached.before ++ command ∷ [])
    front_more = record {
      number = length-append reached.before (command ∷ []) ∙ omega (arith, reached.number);
      each = each_more IsCommand reached.before command reached.each whole;
      rest = after;
      begins = reached.begins ∙ ap (λ s. concat reached.before ++ s) cut ∙ simp (concat-append, append_assoc, append-nil);
    }

    -- the fault of this command is the first
    pub reached_fault : (count : ℕ) (fault : ImageFault) → index < count
        → command_fault index (is_some uuid) (is_some symtab) command ≡ Some fault → IsFirstFault area count fault
    reached_fault count fault h e = (
      index,
      h,
      reached.fine,
      inr (
        reached.before,
        command,
        front_more,
        cc (seen_uuid, seen_symtab, e),
      ),
    )

    -- any command at this place is this one
    this_one : (xs : List (List ℕ)) (x : List ℕ) → AreFirst area (index + 1) (xs ++ x ∷ []) → (reached.before ≡ xs) × (command ≡ x)
    this_one xs x front =
        let same = one_list_of_commands area (index + 1) (reached.before ++ command ∷ []) (xs ++ x ∷ []) front_more front in
        same_from_push reached.before xs command x same

    -- a command without a fault leads on
    pub reached_next : command_fault index (is_some uuid) (is_some symtab) command ≡ None
        → Reached area (index + 1) after (option_or uuid (uuid_among (command ∷ []))) (option_or symtab (symtab_among (command ∷ [])))
    unfolding front_more
    reached_next fine = record {
      before = reached.before ++ command ∷ [];
      number = front_more.number;
      each = front_more.each;
      begins = front_more.begins;
      fine = below_more (λ j. (fault : ImageFault) → IsFaultAt area j fault → ⊥) index reached.fine (λ fault wrong. elim wrong [
        | inl none ↦ none.0 (reached.before ++ command ∷ [], front_more)
        | inr at ↦
            let same = this_one at.0 at.1 at.2 in
            cc (same.0, same.1, seen_uuid, seen_symtab, fine, at.3)
      ]);
      room = each_more HasRoom reached.before command reached.room (room_of index (is_some uuid) (is_some symtab) command whole.long fine);
      uuid_is = ap (λ o. option_or o (uuid_among (command ∷ []))) reached.uuid_is ∙ sym (found-append uuid_bytes is_uuid reached.before (command ∷ []));
      symtab_is = ap (λ o. option_or o (symtab_among (command ∷ []))) reached.symtab_is
          ∙ sym (found-append symtab_fields is_symtab reached.before (command ∷ []));
    }

-- nothing is read at the start
pub reached_start : (area : List ℕ) → Reached area 0 area None None
reached_start area = record {
  before = [];
  number = refl;
  each = tt;
  room = tt;
  begins = refl;
  fine =
      λ j h. absurd (omega arith);
  uuid_is = refl;
  symtab_is = refl;
}

-- at the end, these are all commands
pub reached_all : (area : List ℕ) (index count : ℕ) (rest : List ℕ) (uuid : Option (List ℕ)) (symtab : Option Symtab)
    → Reached area index rest uuid symtab → index ≡ count → AreContents area count uuid symtab
reached_all area index count rest uuid symtab reached e =
    let all : Reached area count rest uuid symtab = subst (λ n. Reached area n rest uuid symtab) e reached in
    record {
      commands = all.before;
      sound = (all.fine, record { number = all.number; each = all.each; rest = rest; begins = all.begins });
      room = all.room;
      uuid_is = all.uuid_is;
      symtab_is = all.symtab_is;
    }
