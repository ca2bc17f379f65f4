-- The segments and the sections of an image stand there at their places.
use Rattle.std.proofs.Common.{◌≡◌, ℕ, zero, suc, ◌+◌, ◌*◌, ◌≤◌, ◌&&◌, nat_le, List, [], ◌∷◌, ◌++◌, length, take, drop}
use Rattle.std.proofs.Common.{refl, sym, ap, ◌∙◌, arith, append_assoc, length-append, length-drop}
use Rattle.std.specs.Prelude.{Contains}
use Rattle.std.specs.List.{concat, AllByRecursion, filter_map, flat_map}
use Rattle.std.proofs.lemmas.List.{drop-drop, drop-append-le, take-append-drop, take_at, drop_at}
use Rattle.std.proofs.lemmas.List.Elements.{All-contains, All-from_recursion, recursion_from_All, All-append}
use Rattle.std.proofs.lemmas.Bool.{cond_both}
use Rattle.macho_image.specs.Layout.{u32_le_at, ncmds, sizeofcmds, command_bytes}
use Rattle.macho_image.specs.Commands.{SegmentRecord, HasRoom, first_commands, commands, is_segment, nsects}
use Rattle.macho_image.specs.Kinds.{load_commands_from, segment_of, segments}
use Rattle.macho_image.specs.Sections.{SectionRecord, IsSectionOf, section_at, section_record, section_records, sections_in, sections}
use Rattle.macho_image.specs.Fault.{IsImage}
use Rattle.macho_image.proofs.KindLemmas.{segments-cons}
use Rattle.macho_image.proofs.SectionPlaces.{section_record-append}
use Rattle.macho_image.proofs.Told.{commands-room}

-- a segment stands in an image at its place, and has room for its sections
record IsSegmentOf (image : List ℕ) (segment : SegmentRecord) : Type 0 where
  rest : List ℕ
  stands : drop segment.offset image ≡ segment.bytes ++ rest
  room : 72 + 80 * nsects segment.bytes ≤ length segment.bytes

segments_stand : (image : List ℕ) (offset : ℕ) (cs : List (List ℕ)) (tail : List ℕ) → AllByRecursion HasRoom cs → drop offset image ≡ concat cs ++ tail
    → AllByRecursion (IsSegmentOf image) (filter_map segment_of (load_commands_from offset cs))
unfolding load_commands_from
segments_stand image offset [] tail room stands = tt
segments_stand image offset (c ∷ cs) tail room stands =
    let here : drop offset image ≡ c ++ (concat cs ++ tail) = stands ∙ append_assoc c (concat cs) tail in
    let next : drop (offset + length c) image ≡ concat cs ++ tail =
    sym (drop-drop (length c) offset image) ∙ ap (drop (length c)) here ∙ drop_at c (concat cs ++ tail) (length c) refl in
    let rest = filter_map segment_of (load_commands_from (offset + length c) cs) in
    let more = segments_stand image (offset + length c) cs tail room.1 next in
    rw (segments-cons offset c cs)
    (cond_both (is_segment c) (record { offset = offset; bytes = c } ∷ rest) rest (AllByRecursion (IsSegmentOf image))
    (λ e. (record { rest = concat cs ++ tail; stands = here; room = room.0.sections e }, more)) (λ e. more))

-- sections that stand one after another
records_stand : (image : List ℕ) (count offset : ℕ) (bytes rest : List ℕ) → 80 * count ≤ length bytes → drop offset image ≡ bytes ++ rest
    → AllByRecursion (IsSectionOf image) (section_records count offset bytes)
unfolding section_records section_at section_record
records_stand image zero offset bytes rest room stands = tt
records_stand image (suc count) offset bytes rest room stands =
    let next : drop (offset + 80) image ≡ drop 80 bytes ++ rest =
    sym (drop-drop 80 offset image) ∙ ap (drop 80) stands ∙ drop-append-le 80 bytes rest (omega arith) in (
      record {
        stands = ap (section_record offset) stands ∙ section_record-append offset bytes rest (omega arith);
        room = omega (arith, ap length stands, length-append bytes rest, length-drop offset image);
      },
      records_stand image count (offset + 80) (drop 80 bytes) rest (omega (arith, length-drop 80 bytes)) next,
    )

-- those of a segment
sections_in-stand : (image : List ℕ) (segment : SegmentRecord) → IsSegmentOf image segment → AllByRecursion (IsSectionOf image) (sections_in segment)
unfolding sections_in
sections_in-stand image segment is =
    records_stand image (nsects segment.bytes) (segment.offset + 72) (drop 72 segment.bytes) is.rest (omega (arith, is.room, length-drop 72 segment.bytes))
    (sym (drop-drop 72 segment.offset image) ∙ ap (drop 72) is.stands ∙ drop-append-le 72 segment.bytes is.rest (omega (arith, is.room)))

-- and of several
all_stand : (image : List ℕ) (segments : List SegmentRecord) → AllByRecursion (IsSegmentOf image) segments
    → AllByRecursion (IsSectionOf image) (flat_map sections_in segments)
all_stand image [] h = tt
all_stand image (segment ∷ segments) h =
    recursion_from_All _ _ (All-append (IsSectionOf image) (sections_in segment) (flat_map sections_in segments)
    (All-from_recursion _ _ (sections_in-stand image segment h.0)) (All-from_recursion _ _ (all_stand image segments h.1)))

-- the commands that are cut from bytes begin them
front_of : (count : ℕ) (area : List ℕ) → (rest : List ℕ) × (area ≡ concat (first_commands count area) ++ rest)
unfolding first_commands
front_of zero area = (area, refl)
front_of (suc count) area =
    let size = u32_le_at area 4 in
    let below = front_of count (drop size area) in
    cond_both (nat_le 8 size && nat_le 8 (length area) && nat_le size (length area)) (take size area ∷ first_commands count (drop size area)) []
    (λ cs. (rest : List ℕ) × (area ≡ concat cs ++ rest))
    (λ e. (
      below.0,
      sym (take-append-drop size area) ∙ ap (λ bytes. take size area ++ bytes) below.1
          ∙ sym (append_assoc (take size area) (concat (first_commands count (drop size area))) below.0),
    ))
    (λ e. (area, refl))

module _ (image : List ℕ) (room : AllByRecursion HasRoom (commands image)) where
  each_segment : AllByRecursion (IsSegmentOf image) (segments image)
  each_segment =
      let front = front_of (ncmds image) (command_bytes image) in
      let rest = drop (sizeofcmds image) (drop 32 image) in
      segments_stand image 32 (commands image) (front.0 ++ rest) room
      (sym (take-append-drop (sizeofcmds image) (drop 32 image)) ∙ ap (λ bytes. bytes ++ rest) front.1 ∙ append_assoc (concat (commands image)) front.0 rest)

  pub each_section : AllByRecursion (IsSectionOf image) (sections image)
  unfolding sections
  each_section = all_stand image (segments image) each_segment

pub segment_stands : (image : List ℕ) (segment : SegmentRecord) → IsImage image → Contains (segments image) segment
    → take (length segment.bytes) (drop segment.offset image) ≡ segment.bytes
segment_stands image segment sound member =
    let is = All-contains (IsSegmentOf image) (segments image) segment (All-from_recursion _ _ (each_segment image (commands-room image sound))) member in
    ap (take (length segment.bytes)) is.stands ∙ take_at segment.bytes is.rest (length segment.bytes) refl

pub section_stands : (image : List ℕ) (section : SectionRecord) → IsImage image → Contains (sections image) section → IsSectionOf image section
section_stands image section sound member =
    All-contains (IsSectionOf image) (sections image) section (All-from_recursion _ _ (each_section image (commands-room image sound))) member
