-- The table of an image, out of what was collected.
use Rattle.std.proofs.Common.{◌≡◌, ℕ, zero, suc, ◌+◌, ◌-◌, ◌<◌, ◌≤◌, ◌^◌, inl, inr, List, [], ◌∷◌, ◌++◌, length, map}
use Rattle.std.proofs.Common.{take, drop, refl, sym, ap, ◌∙◌, subst, append_assoc, arith, length-append, length-take}
use Rattle.std.proofs.Common.{Option}
use Rattle.std.specs.Prelude.{All, flat_map}
use Rattle.std.specs.Int.{w64, to_be_bytes}
use Rattle.std.proofs.Math.Seq.{drop-append-add, take-append-add, take-nil}
use Rattle.std.proofs.lemmas.Bool.{cases_lt}
use Rattle.std.proofs.lemmas.List.{append-nil, drop-append-le, drop_all, length-map, take-append-le, take_all}
use Rattle.std.proofs.lemmas.List.Elements.{All-append, All-cons, All-map, All-nil, All-take}
use Rattle.macho_image.specs.Layout.{name_at}
use Rattle.macho_image.specs.Commands.{SegmentRecord, nsects}
use Rattle.macho_image.specs.Kinds.{segments}
use Rattle.macho_image.specs.Sections.{SectionRecord, section_record, section_records, sections, sections_in, text_base_of}
use Rattle.macho_image.specs.SectionViews.{section_view}
use Rattle.macho_image.specs.declared.section.Section.{Section}
use Rattle.macho_symbols.specs.Symbols.{strings_of}
use Rattle.table_symbols.specs.Rows.{IsRow, rows_bytes}
use Rattle.macho_symbols.specs.Steps.{AreSteps}
use Rattle.table_symbols.specs.Table.{FitsTable, IsTableWith, SectionNames, TableParts, base_flag, base_or_zero}
use Rattle.table_symbols.specs.Table.{head_bytes, names_of, section_bytes, table_bytes}
use Rattle.macho_symbols.specs.SectionNumbers.{AreSectionsOf}
use Rattle.macho_symbols.specs.declared.row.Row.{Row}
use Rattle.table_symbols.proofs.RowLemmas.{length-rows_bytes}
use Rattle.table_symbols.proofs.TableLemmas.{length-head, length-names}
use Rattle.table_symbols.proofs.FoundLemmas.{short_first as shorter}

-- ---- names of sections are short

Short : SectionRecord → Type 0
Short s = (length s.segment ≤ 16) × (length s.section ≤ 16)

short_name : (bytes : List ℕ) (at : ℕ) → length (name_at bytes at) ≤ 16
short_name bytes at = omega (arith, shorter (take 16 (drop at bytes)), length-take 16 (drop at bytes))

short_records : (count offset : ℕ) (bytes : List ℕ) → All (λ s. (length s.segment ≤ 16) × (length s.section ≤ 16)) (section_records count offset bytes)
unfolding section_records section_record
short_records zero offset bytes = All-nil (λ (s : SectionRecord). (length s.segment ≤ 16) × (length s.section ≤ 16))
short_records (suc count) offset bytes =
    All-cons (λ (s : SectionRecord). (length s.segment ≤ 16) × (length s.section ≤ 16)) (section_record offset bytes)
    (section_records count (offset + 80) (drop 80 bytes))
    (short_name bytes 16, short_name bytes 0) (short_records count (offset + 80) (drop 80 bytes))

short_sections : (all : List SegmentRecord) → All (λ s. (length s.segment ≤ 16) × (length s.section ≤ 16)) (flat_map sections_in all)
unfolding sections_in
short_sections [] = All-nil (λ (s : SectionRecord). (length s.segment ≤ 16) × (length s.section ≤ 16))
short_sections (segment ∷ rest) =
    All-append (λ (s : SectionRecord). (length s.segment ≤ 16) × (length s.section ≤ 16)) (sections_in segment) (flat_map sections_in rest)
    (short_records (nsects segment.bytes) (segment.offset + 72) (drop 72 segment.bytes)) (short_sections rest)

short_of : (image : List ℕ) → All (λ s. (length s.segment ≤ 16) × (length s.section ≤ 16)) (sections image)
unfolding sections
short_of image = short_sections (segments image)

pub short_names : (image : List ℕ) → All (λ (s : SectionNames). (length s.segment ≤ 16) × (length s.section ≤ 16)) (map names_of (take 255 (sections image)))
short_names image =
    All-map (λ (s : SectionNames). (length s.segment ≤ 16) × (length s.section ≤ 16)) names_of (take 255 (sections image))
    (All-take (λ (s : SectionRecord). (length s.segment ≤ 16) × (length s.section ≤ 16)) 255 (sections image) (short_of image))

-- ---- the bytes

names_along : (ss : List Section) → flat_map (λ s. section_bytes (names_of (section_view s))) ss ≡ flat_map section_bytes (map names_of (map section_view ss))
names_along [] = refl
names_along (s ∷ ss) = ap (λ rest. section_bytes (names_of (section_view s)) ++ rest) (names_along ss)

head_of_numbers : Option ℕ → ℕ → ℕ → ℕ → ℕ → List ℕ
head_of_numbers base n r s l =
    to_be_bytes w64 (base_flag base) ++ (to_be_bytes w64 (base_or_zero base)
    ++ (to_be_bytes w64 n ++ (to_be_bytes w64 r ++ (to_be_bytes w64 s ++ to_be_bytes w64 l))))

head_along : (t : TableParts) (base : Option ℕ) (n r s l : ℕ) → base ≡ t.base → n ≡ length t.names → r ≡ length t.rows
    → s ≡ length t.strings → l ≡ length t.lines
    → head_of_numbers base n r s l ≡ head_bytes t
unfolding head_bytes head_of_numbers
head_along t base n r s l b p q e f = λ i. head_of_numbers (b i) (p i) (q i) (e i) (f i)

-- the table of an image, by its rows and lines
abbrev parts_for : List ℕ → List Row → List ℕ → TableParts
parts_for image rows lines = record {
  base = text_base_of image;
  names = map names_of (take 255 (sections image));
  rows = rows;
  strings = strings_of image;
  lines = lines;
}

pub text_is : (image : List ℕ) (ss : List Section) (rows : List Row) (base : Option ℕ) (n r s l : ℕ)
    (none one two own strings lines : List ℕ) → AreSectionsOf image ss → AreSteps image rows
    → base ≡ text_base_of image → strings ≡ strings_of image → n ≡ length ss → r ≡ length rows → s ≡ length strings → l
    ≡ length lines → base_or_zero base < 2 ^ 64 → All IsRow rows
    → none ≡ []
    → one ≡ none ++ (to_be_bytes w64 (base_flag base) ++ (to_be_bytes w64 (base_or_zero base)
    ++ (to_be_bytes w64 n ++ (to_be_bytes w64 r ++ (to_be_bytes w64 s ++ to_be_bytes w64 l)))))
    → two ≡ one ++ flat_map (λ s. section_bytes (names_of (section_view s))) ss
    → own ≡ two ++ rows_bytes rows → length own + length strings + length lines < 2 ^ 64 → IsTableWith image lines (own ++ (strings ++ lines))
unfolding head_of_numbers table_bytes
text_is image ss rows base n r s l none one two own strings lines of are b str long_n long_r long_s long_l fits each empty first second third small =
    (parts_for image rows lines, record { base = refl; names = refl; rows = are; strings = refl }, fitting, same, refl)
  where
    t : TableParts
    t = parts_for image rows lines

    names_are : map names_of (map section_view ss) ≡ t.names
    names_are = ap (map names_of) of

    long_names : length ss ≡ length t.names
    long_names = omega (arith, ap length names_are, length-map (map section_view ss) names_of, length-map ss section_view)

    own_is : own ≡ (head_bytes t ++ flat_map section_bytes t.names) ++ rows_bytes rows
    own_is =
        let head : one ≡ head_bytes t =
        first ∙ ap (λ x. x ++ head_of_numbers base n r s l) empty ∙ head_along t base n r s l b (long_n ∙ long_names) long_r (long_s ∙ ap length str) long_l in
        let names : flat_map (λ s. section_bytes (names_of (section_view s))) ss ≡ flat_map section_bytes t.names =
        names_along ss ∙ ap (flat_map section_bytes) names_are in
        third ∙ (λ i. (second ∙ (λ j. head j ++ names j)) i ++ rows_bytes rows)

    same : own ++ (strings ++ lines) ≡ table_bytes t
    same =
        let names : List ℕ = flat_map section_bytes t.names in
        (λ i. own_is i ++ (str i ++ lines)) ∙ append_assoc (head_bytes t ++ names) (rows_bytes rows) (strings_of image ++ lines)
        ∙ append_assoc (head_bytes t) names (rows_bytes rows ++ (strings_of image ++ lines))

    fitting : FitsTable t
    fitting =
        let names : List ℕ = flat_map section_bytes t.names in
        record {
          base = subst (λ o. base_or_zero o < 2 ^ 64) b fits;
          names = short_names image;
          rows = record { each = each; rising = are.rising };
          size =
              omega (
                arith,
                small,
                ap length own_is,
                ap length str,
                length-append (head_bytes t ++ names) (rows_bytes rows),
                length-append (head_bytes t) names,
                length-head t,
                length-names t.names (short_names image),
                length-rows_bytes rows,
              );
        }

-- ---- pages

take_of_both : (a b : List ℕ) (n : ℕ) → take n (a ++ b) ≡ take n a ++ take (n - length (take n a)) b
take_of_both a b n = elim (cases_lt (length a) n) [
  | inl l ↦
      let all : take n a ≡ a = take_all n a (omega (arith, l)) in
      let rest : n ≡ length a + (n - length a) = omega (arith, l) in
      ap (λ k. take k (a ++ b)) rest ∙ take-append-add a b (n - length a) ∙ (λ i. sym all i ++ take (n - length (sym all i)) b)
  | inr l ↦
      let none : n - length (take n a) ≡ 0 = omega (arith, l, length-take n a) in
      take-append-le n a b l ∙ sym (append-nil (take n a)) ∙ ap (λ k. take n a ++ take k b) (sym none)
]

-- a part of two lists one after the other has a part of each
part_of_both : (a b : List ℕ) (from n : ℕ) → take n (drop from (a ++ b)) ≡ take n (drop from a)
    ++ take (n - length (take n (drop from a))) (drop (from - length a) b)
part_of_both a b from n = elim (cases_lt (length a) from) [
  | inl l ↦
      let past : drop from a ≡ [] = drop_all from a (omega (arith, l)) in
      let rest : from ≡ length a + (from - length a) = omega (arith, l) in
      let nothing : take n (drop from a) ≡ [] = ap (take n) past ∙ take-nil n in
      let whole : n ≡ n - length (take n (drop from a)) = omega (arith, ap length nothing) in
      ap (λ k. take n (drop k (a ++ b))) rest ∙ ap (take n) (drop-append-add a b (from - length a)) ∙ ap (λ k. take k (drop (from - length a) b)) whole
      ∙ ap (λ own. own ++ take (n - length (take n (drop from a))) (drop (from - length a) b)) (sym nothing)
  | inr l ↦
      let here : 0 ≡ from - length a = omega (arith, l) in
      ap (take n) (drop-append-le from a b l) ∙ take_of_both (drop from a) b n
      ∙ ap (λ k. take n (drop from a) ++ take (n - length (take n (drop from a))) (drop k b)) here
]

pub part_short : (part : List ℕ) (n : ℕ) (all : List ℕ) → part ≡ take n all → length part ≤ n
part_short part n all is = omega (arith, ap length is, length-take n all)

-- and so it is of three, where the third has what the second leaves
pub part_of_three : (a b c : List ℕ) (from n : ℕ) → take n (drop from (a ++ (b ++ c)))
    ≡ take n (drop from a) ++ (take (n - length (take n (drop from a))) (drop (from - length a) b)
    ++ take (n - length (take n (drop from a)) - length
    (take (n - length (take n (drop from a))) (drop (from - length a) b))) (drop (from - length a - length b) c))
part_of_three a b c from n =
    part_of_both a (b ++ c) from n ∙ ap (λ rest. take n (drop from a) ++ rest) (part_of_both b c (from - length a) (n - length (take n (drop from a))))
