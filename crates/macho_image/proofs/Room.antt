-- Commands and sections have room in an image, so there are not too many of them.
use Rattle.std.proofs.Common.{ℕ, zero, suc, ◌+◌, ◌*◌, ◌≤◌, nat_le, ◌&&◌, List, [], ◌∷◌, ◌++◌, length, take, drop, arith}
use Rattle.std.proofs.Common.{length-append, length-drop, length-take}
use Rattle.std.specs.List.{concat, AllByRecursion, filter_map, flat_map}
use Rattle.std.proofs.lemmas.Bool.{cond_both}
use Rattle.macho_image.specs.Layout.{u32_le_at, command_bytes, ncmds}
use Rattle.macho_image.specs.Commands.{SegmentRecord, HasRoom, is_segment, first_commands, commands}
use Rattle.macho_image.specs.Kinds.{load_commands_from, segment_of}
use Rattle.macho_image.specs.Sections.{sections_in, sections}
use Rattle.macho_image.proofs.Images.{fits_of}
use Rattle.macho_image.proofs.KindLemmas.{segments-cons}
use Rattle.macho_image.proofs.SectionPlaces.{length-sections_in}

-- the commands that are cut from bytes are no longer than these
length-first_commands : (count : ℕ) (area : List ℕ) → length (concat (first_commands count area)) ≤ length area
unfolding first_commands
length-first_commands zero area = omega arith
length-first_commands (suc count) area =
    cond_both (nat_le 8 (u32_le_at area 4) && nat_le 8 (length area) && nat_le (u32_le_at area 4) (length area))
    (take (u32_le_at area 4) area ∷ first_commands count (drop (u32_le_at area 4) area)) [] (λ cs. length (concat cs) ≤ length area)
    (λ e. omega (
      arith,
      fits_of (u32_le_at area 4) (length area) e,
      length-first_commands count (drop (u32_le_at area 4) area),
      length-append (take (u32_le_at area 4) area) (concat (first_commands count (drop (u32_le_at area 4) area))),
      length-take (u32_le_at area 4) area,
      length-drop (u32_le_at area 4) area,
    ))
    (λ e. omega arith)

-- sections have room in their commands
sections_fit : (offset : ℕ) (cs : List (List ℕ)) → AllByRecursion HasRoom cs
    → 80 * length (flat_map sections_in (filter_map segment_of (load_commands_from offset cs))) ≤ length (concat cs)
unfolding load_commands_from
sections_fit offset [] h = omega arith
sections_fit offset (c ∷ cs) h =
    let segment : SegmentRecord = record { offset = offset; bytes = c } in
    let rest = filter_map segment_of (load_commands_from (offset + length c) cs) in
    let below = sections_fit (offset + length c) cs h.1 in
    let both = length-append c (concat cs) in
    rw (segments-cons offset c cs)
    (cond_both (is_segment c) (segment ∷ rest) rest (λ segments. 80 * length (flat_map sections_in segments) ≤ length (c ++ concat cs))
    (λ e. omega (arith, below, both, h.0.sections e, length-sections_in segment, length-append (sections_in segment) (flat_map sections_in rest)))
    (λ e. omega (arith, below, both)))

-- each command has eight bytes
commands_fit : (cs : List (List ℕ)) → AllByRecursion HasRoom cs → 8 * length cs ≤ length (concat cs)
commands_fit [] h = omega arith
commands_fit (c ∷ cs) h = omega (arith, commands_fit cs h.1, h.0.long, length-append c (concat cs))

length-area : (image : List ℕ) → length (command_bytes image) ≤ length image
length-area image = simp (length-take, length-drop) (omega arith)

pub length-commands : (image : List ℕ) → AllByRecursion HasRoom (commands image) → 8 * length (commands image) ≤ length image
length-commands image room =
    omega (arith, commands_fit (commands image) room, length-first_commands (ncmds image) (command_bytes image), length-area image)

pub length-sections : (image : List ℕ) → AllByRecursion HasRoom (commands image) → 80 * length (sections image) ≤ length image
unfolding sections
length-sections image room =
    omega (arith, sections_fit 32 (commands image) room, length-first_commands (ncmds image) (command_bytes image), length-area image)
