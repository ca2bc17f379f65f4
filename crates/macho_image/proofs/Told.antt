-- What is known of each image: how long it is, that its commands have no fault, and that its UUID has sixteen bytes.
use Rattle.std.proofs.Common.{◌≡◌, ℕ, ◌+◌, ◌^◌, ◌<◌, ◌≤◌, Bool, true, false, List, [], ◌∷◌, ◌++◌, length, Some, None}
use Rattle.std.proofs.Common.{refl, sym, ap, ◌∙◌, inl, inr, arith, append_assoc, length-append, length-take}
use Rattle.std.proofs.Common.{length-drop, unwrap_or, take, drop, ◌&&◌}
use Rattle.std.specs.List.{concat, AllByRecursion, list_any, find}
use Rattle.std.specs.Option.{option_map}
use Rattle.std.specs.Prelude.{Contains, slice_index_or}
use Rattle.std.proofs.lemmas.List.{append-nil, drop_more, take-append-drop}
use Rattle.std.proofs.lemmas.List.Folds.{concat-append}
use Rattle.std.proofs.lemmas.Bool.{ltb-false, cases_Bool, or_parts}
use Rattle.std.proofs.lemmas.Bool.Decides.{nat_tests}
use Rattle.macho_image.specs.Layout.{sizeofcmds, ncmds, command_bytes}
use Rattle.macho_image.specs.Commands.{IsCommand, AreFirst, HasRoom, commands, is_uuid, is_symtab}
use Rattle.macho_image.specs.Fault.{header_fault, command_fault, IsImage}
use Rattle.macho_image.specs.Contents.{uuid_bytes, uuid_of, symtab_fields, symtab_of}
use Rattle.macho_image.proofs.CommandFaults.{passes_tests, none_or_some, room_of}
use Rattle.macho_image.proofs.Images.{first_commands-front}

-- bytes without a fault in the header are at least as long as it and the commands, and not too long
pub record HasHeader (bytes : List ℕ) : Type 0 where
  pub small : length bytes < 2 ^ 32
  pub header : 32 ≤ length bytes
  pub commands : 32 + sizeofcmds bytes ≤ length bytes

pub has_header : (bytes : List ℕ) → header_fault bytes ≡ None → HasHeader bytes
has_header bytes fine = grind (arith, nat_tests)

pub length-image : (image : List ℕ) → IsImage image → length image < 2 ^ 32
length-image image sound = (has_header image sound.header).small

-- a front ends after each of its commands
front_to : (area : List ℕ) (count : ℕ) (before after : List (List ℕ)) (command : List ℕ)
    → AreFirst area count (before ++ command ∷ after) → AreFirst area (length before + 1) (before ++ command ∷ [])
front_to area count before after command front = record {
  number = length-append before (command ∷ []);
  each = each_to before front.each;
  rest = concat after ++ front.rest;
  begins = front.begins ∙ simp (concat-append, append_assoc, append-nil);
}
  where
    each_to : (xs : List (List ℕ)) → AllByRecursion IsCommand (xs ++ command ∷ after) → AllByRecursion IsCommand (xs ++ command ∷ [])
    each_to [] h = (h.0, tt)
    each_to (x ∷ xs) h = (h.0, each_to xs h.1)

-- no command of an image has a fault
pub command_fault-image : (image : List ℕ) → IsImage image → (before after : List (List ℕ)) (command : List ℕ) → commands image ≡ before ++ command ∷ after
    → command_fault (length before) (list_any is_uuid before) (list_any is_symtab before) command ≡ None
command_fault-image image sound before after command split =
    let same : sound.commands ≡ before ++ command ∷ after =
    sym (first_commands-front (ncmds image) (command_bytes image) sound.commands sound.sound.1) ∙ split in
    let front : AreFirst (command_bytes image) (ncmds image) (before ++ command ∷ after) = rw same at sound.sound.1 in
    let below : length before < ncmds image = omega (arith, front.number, length-append before (command ∷ after)) in
    elim (none_or_some (command_fault (length before) (list_any is_uuid before) (list_any is_symtab before) command)) [
      | inl fine ↦ fine
      | inr e ↦ absurd (sound.sound.0 (length before) below e.0
          (inr (before, command, front_to (command_bytes image) (ncmds image) before after command front, e.1)))
    ]

-- what passes first stands between others
pub record FirstBetween (p : List ℕ → Bool) (xs : List (List ℕ)) : Type 0 where
  pub before : List (List ℕ)
  pub command : List ℕ
  pub after : List (List ℕ)
  pub split : xs ≡ before ++ command ∷ after
  pub passes : p command ≡ true
  pub found : find p xs ≡ Some command

first_between : (p : List ℕ → Bool) (xs : List (List ℕ)) → list_any p xs ≡ true → FirstBetween p xs
first_between p [] h = cc h
first_between p (y ∷ ys) h = elim (cases_Bool (p y)) [
  | inl e ↦ record { before = []; command = y; after = ys; split = refl; passes = e; found = rw e refl }
  | inr e ↦
      let more = first_between p ys (rw e at h) in
      record {
        before = y ∷ more.before;
        command = more.command;
        after = more.after;
        split = ap (λ s. y ∷ s) more.split;
        passes = more.passes;
        found = rw e more.found;
      }
]

-- the UUID of an image has sixteen bytes
pub uuid_of-length : (image : List ℕ) → IsImage image → length (uuid_of image) ≡ 16
uuid_of-length image sound =
    let same : sound.commands ≡ commands image = sym (first_commands-front (ncmds image) (command_bytes image) sound.commands sound.sound.1) in
    let first = first_between is_uuid (commands image) (rw same at sound.has_uuid) in
    let fine = command_fault-image image sound first.before first.after first.command first.split in
    let long : 24 ≤ length first.command = ltb-false _ _ (rw first.passes at (passes_tests _ _ _ first.command fine).uuid) in
    rw first.found (simp (length-take, length-drop) (omega arith))

-- what a list contains stands between others
split_contained : (xs : List (List ℕ)) (x : List ℕ) (k : ℕ) → k < length xs → slice_index_or xs k x ≡ x
    → (before : List (List ℕ)) × (after : List (List ℕ)) × (xs ≡ before ++ x ∷ after)
split_contained xs x k h e =
    (take k xs, drop (k + 1) xs, sym (take-append-drop k xs) ∙ ap (λ s. take k xs ++ s) (drop_more xs k x h ∙ ap (λ y. y ∷ drop (k + 1) xs) e))

-- what passes after others that do not is found
find_behind : (p : List ℕ → Bool) (before after : List (List ℕ)) (x : List ℕ) → list_any p before ≡ false → p x ≡ true → find p (before ++ x ∷ after) ≡ Some x
find_behind p [] after x none passes = rw passes refl
find_behind p (y ∷ before) after x none passes =
    let parts = or_parts (p y) (list_any p before) none in
    rw parts.0 (find_behind p before after x parts.1 passes)

-- and so is what a list contains, where nothing before it passes
found_alone : (p : List ℕ → Bool) (xs : List (List ℕ)) (x : List ℕ) → Contains xs x → p x ≡ true
    → ((before after : List (List ℕ)) → xs ≡ before ++ x ∷ after → (p x && list_any p before) ≡ false) → find p xs ≡ Some x
found_alone p xs x contained passes alone =
    let split = split_contained xs x contained.0 contained.1 contained.2 in
    ap (find p) split.2 ∙ find_behind p split.0 split.1 x (rw passes at (alone split.0 split.1 split.2)) passes

-- so the UUID of an image is that of any LC_UUID in it, and likewise the symbol table
pub uuid_of-any : (image command : List ℕ) → IsImage image → Contains (commands image) command → is_uuid command ≡ true → uuid_of image ≡ uuid_bytes command
uuid_of-any image command sound contained uuid =
    ap (λ o. unwrap_or (option_map uuid_bytes o) [])
    (found_alone is_uuid (commands image) command contained uuid
    (λ before after split. (passes_tests _ _ _ command (command_fault-image image sound before after command split)).one_uuid))

pub symtab_of-any : (image command : List ℕ) → IsImage image → Contains (commands image) command → is_symtab command
    ≡ true → symtab_of image ≡ Some (symtab_fields command)
symtab_of-any image command sound contained symtab =
    ap (option_map symtab_fields)
    (found_alone is_symtab (commands image) command contained symtab
    (λ before after split. (passes_tests _ _ _ command (command_fault-image image sound before after command split)).one_symtab))

-- each command of an image has room for what its kind holds
pub commands-room : (image : List ℕ) → IsImage image → AllByRecursion HasRoom (commands image)
commands-room image sound =
    let same : sound.commands ≡ commands image = sym (first_commands-front (ncmds image) (command_bytes image) sound.commands sound.sound.1) in
    each_room [] (commands image) refl (rw same at sound.sound.1.each)
  where
    each_room : (before after : List (List ℕ)) → commands image ≡ before ++ after → AllByRecursion IsCommand after → AllByRecursion HasRoom after
    each_room before [] split h = tt
    each_room before (command ∷ after) split h = (
      room_of _ _ _ command h.0.long (command_fault-image image sound before after command split),
      each_room (before ++ command ∷ []) after (split ∙ sym (append_assoc before (command ∷ []) after)) h.1,
    )
