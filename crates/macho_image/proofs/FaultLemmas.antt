-- Bytes have one fault, or are an image.
use Rattle.std.proofs.Common.{◌≡◌, ℕ, zero, suc, ◌+◌, nat_le, ◌&&◌, List, [], ◌∷◌, ◌++◌, length, take, drop, refl, sym, ap, ◌∙◌, inl, inr, arith, append_assoc}
use Rattle.std.specs.List.{concat, list_any}
use Rattle.std.proofs.lemmas.List.{take-append-drop, same_from_push}
use Rattle.std.proofs.lemmas.Bool.{cases_Bool, cases_order}
use Rattle.macho_image.specs.Layout.{u32_le_at, ncmds, command_bytes}
use Rattle.macho_image.specs.Commands.{AreFirst, first_commands, is_uuid}
use Rattle.macho_image.specs.Fault.{IsFaultAt, NoneBelow, IsFirstFault, IsImageFault, IsImage}
use Rattle.macho_image.specs.declared.fault.ImageFault.{ImageFault}
use Rattle.macho_image.proofs.FirstCommands.{one_list_of_commands, command_of_size}
use Rattle.macho_image.proofs.Images.{fits_of}

-- at one place there is one fault
same_at : (area : List ℕ) (i : ℕ) (f g : ImageFault) → IsFaultAt area i f → IsFaultAt area i g → f ≡ g
same_at area i f g (inl p) (inl q) = p.1 ∙ sym q.1
same_at area i f g (inl p) (inr q) = absurd (p.0 (q.0 ++ q.1 ∷ [], q.2))
same_at area i f g (inr p) (inl q) = absurd (q.0 (p.0 ++ p.1 ∷ [], p.2))
same_at area i f g (inr p) (inr q) =
    let whole = one_list_of_commands area (i + 1) (p.0 ++ p.1 ∷ []) (q.0 ++ q.1 ∷ []) p.2 q.2 in
    let parts = same_from_push p.0 q.0 p.1 q.1 whole in
    cc (parts.0, parts.1, p.3, q.3)

-- the first is one
same_first : (area : List ℕ) (count : ℕ) (f g : ImageFault) → IsFirstFault area count f → IsFirstFault area count g → f ≡ g
same_first area count f g p q = elim (cases_order p.0 q.0) [
  | inl same ↦ same_at area q.0 f g (rw same at p.3) q.3
  | inr (inl below) ↦ absurd (q.2 p.0 below f p.3)
  | inr (inr below) ↦ absurd (p.2 q.0 below g q.3)
]

none_first : (area : List ℕ) (count : ℕ) (f : ImageFault) → NoneBelow area count → IsFirstFault area count f → ⊥
none_first area count f none p = none p.0 p.1 f p.3

pub one_image_fault : (bytes : List ℕ) (f g : ImageFault) → IsImageFault bytes f → IsImageFault bytes g → f ≡ g
one_image_fault bytes f g (inl p) (inl q) = cc (p, q)
one_image_fault bytes f g (inl p) (inr (inl q)) = cc (p, q.0)
one_image_fault bytes f g (inl p) (inr (inr q)) = cc (p, q.0)
one_image_fault bytes f g (inr (inl p)) (inl q) = cc (p.0, q)
one_image_fault bytes f g (inr (inl p)) (inr (inl q)) = same_first (command_bytes bytes) (ncmds bytes) f g p.1 q.1
one_image_fault bytes f g (inr (inl p)) (inr (inr q)) = absurd (none_first (command_bytes bytes) (ncmds bytes) f q.3.0 p.1)
one_image_fault bytes f g (inr (inr p)) (inl q) = cc (p.0, q)
one_image_fault bytes f g (inr (inr p)) (inr (inl q)) = absurd (none_first (command_bytes bytes) (ncmds bytes) g p.3.0 q.1)
one_image_fault bytes f g (inr (inr p)) (inr (inr q)) = p.1 ∙ sym q.1

pub no_image_fault : (bytes : List ℕ) (f : ImageFault) → IsImage bytes → IsImageFault bytes f → ⊥
no_image_fault bytes f image (inl p) = cc (image.header, p)
no_image_fault bytes f image (inr (inl p)) = none_first (command_bytes bytes) (ncmds bytes) f image.sound.0 p.1
no_image_fault bytes f image (inr (inr p)) =
    let same = one_list_of_commands (command_bytes bytes) (ncmds bytes) image.commands p.2 image.sound.1 p.3.1 in
    cc (image.has_uuid, ap (list_any is_uuid) same, p.4)

-- where the definition cuts as many as are asked for, they are the front
pub front_of-first_commands : (count : ℕ) (area : List ℕ) → length (first_commands count area) ≡ count → AreFirst area count (first_commands count area)
unfolding first_commands
front_of-first_commands zero area h = record { number = refl; each = tt; rest = area; begins = refl }
front_of-first_commands (suc count) area h = elim (cases_Bool
    (nat_le 8 (u32_le_at area 4) && nat_le 8 (length area) && nat_le (u32_le_at area 4) (length area))) [
      | inl e ↦
          let fits = fits_of (u32_le_at area 4) (length area) e in
          let all : length (take (u32_le_at area 4) area ∷ first_commands count (drop (u32_le_at area 4) area)) ≡ suc count = rw e at h in
          let more = front_of-first_commands count (drop (u32_le_at area 4) area) (omega (arith, all)) in
          rw e (record {
            number = all;
            each = (command_of_size area (u32_le_at area 4) refl fits.0 fits.1, more.each);
            rest = more.rest;
            begins = sym (take-append-drop (u32_le_at area 4) area)
                ∙ ap (λ s. take (u32_le_at area 4) area ++ s) more.begins
                ∙ sym (append_assoc (take (u32_le_at area 4) area)
                (concat (first_commands count (drop (u32_le_at area 4) area))) more.rest);
          })
      | inr e ↦ let none : zero ≡ suc count = rw e at h in absurd (omega (arith, none))
    ]
