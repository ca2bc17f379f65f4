-- Where the sections of a segment stand, and those of an image.
use Rattle.std.proofs.Common.{◌≡◌, ℕ, zero, suc, ◌+◌, ◌*◌, ◌<◌, ◌≤◌, ◌==◌, List, ◌++◌, length, take, drop, refl, ap, ◌∙◌, Some, arith, slice_get, length-drop}
use Rattle.std.specs.List.{before_first}
use Rattle.std.proofs.lemmas.List.{drop-drop, drop-append-le, take-append-le}
use Rattle.byteorder.specs.Endian.{little_number}
use Rattle.byteorder.specs.Numbers.{little_from-append}
use Rattle.macho_image.specs.Layout.{u64_le_at, name_at}
use Rattle.macho_image.specs.Commands.{SegmentRecord, nsects}
use Rattle.macho_image.specs.Sections.{section_record, section_records, sections_in}

length-section_records : (count offset : ℕ) (bytes : List ℕ) → length (section_records count offset bytes) ≡ count
unfolding section_records
length-section_records zero offset bytes = refl
length-section_records (suc count) offset bytes = omega (arith, length-section_records count (offset + 80) (drop 80 bytes))

record_at : (count offset : ℕ) (bytes : List ℕ) (i : ℕ) → i < count → slice_get (section_records count offset bytes) i
    ≡ Some (section_record (offset + 80 * i) (drop (80 * i) bytes))
unfolding section_records
record_at zero offset bytes i h = absurd (omega arith)
record_at (suc count) offset bytes zero h = ap (λ k. Some (section_record k bytes)) (omega arith)
record_at (suc count) offset bytes (suc i) h =
    record_at count (offset + 80) (drop 80 bytes) i (omega arith)
    ∙ ap (λ s. Some (section_record (offset + 80 + 80 * i) s))
    (drop-drop (80 * i) 80 bytes ∙ ap (λ n. drop n bytes) (omega arith))
    ∙ ap (λ k. Some (section_record k (drop (80 * suc i) bytes))) (omega arith)

-- a segment has as many sections as it says
pub length-sections_in : (segment : SegmentRecord) → length (sections_in segment) ≡ nsects segment.bytes
unfolding sections_in
length-sections_in segment = length-section_records (nsects segment.bytes) (segment.offset + 72) (drop 72 segment.bytes)

-- and each stands at its place after the segment_command_64
pub section_in-at : (segment : SegmentRecord) (i : ℕ) → i < nsects segment.bytes
    → slice_get (sections_in segment) i ≡ Some (section_record (segment.offset + 72 + 80 * i) (drop (72 + 80 * i) segment.bytes))
unfolding sections_in
section_in-at segment i h =
    record_at (nsects segment.bytes) (segment.offset + 72) (drop 72 segment.bytes) i h
    ∙ ap (λ s. Some (section_record (segment.offset + 72 + 80 * i) s)) (drop-drop (80 * i) 72 segment.bytes ∙ ap (λ n. drop n segment.bytes) (omega arith))

-- a section is that of the bytes in front, whatever follows them
u64_le_at-append : (xs ys : List ℕ) (offset : ℕ) → offset + 8 ≤ length xs → u64_le_at (xs ++ ys) offset ≡ u64_le_at xs offset
unfolding u64_le_at
u64_le_at-append xs ys offset h =
    ap (little_number 8) (drop-append-le offset xs ys (omega arith)) ∙ little_from-append 8 (drop offset xs) ys (omega (arith, length-drop offset xs))

name_at-append : (xs ys : List ℕ) (offset : ℕ) → offset + 16 ≤ length xs → name_at (xs ++ ys) offset ≡ name_at xs offset
name_at-append xs ys offset h =
    ap (λ bytes. before_first (λ b. b == 0) (take 16 bytes)) (drop-append-le offset xs ys (omega arith))
    ∙ ap (before_first (λ b. b == 0)) (take-append-le 16 (drop offset xs) ys (omega (arith, length-drop offset xs)))

pub section_record-append : (offset : ℕ) (xs ys : List ℕ) → 80 ≤ length xs → section_record offset (xs ++ ys) ≡ section_record offset xs
unfolding section_record
section_record-append offset xs ys h =
    rw (
      name_at-append xs ys 16 (omega arith),
      name_at-append xs ys 0 (omega arith),
      u64_le_at-append xs ys 32 (omega arith),
      u64_le_at-append xs ys 40 (omega arith),
    ) refl
