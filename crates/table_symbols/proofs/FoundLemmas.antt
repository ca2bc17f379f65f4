-- The names of sections in 32 bytes, and what is found with them.
use Rattle.std.proofs.Common.{◌≡◌, ℕ, zero, suc, ◌+◌, ◌*◌, ◌-◌, ◌==◌, ◌<◌, ◌≤◌, inl, inr, subst, length-take}
use Rattle.std.proofs.Common.{append_assoc, List, [], ◌∷◌, ◌++◌, length, take, drop, map, slice_get, refl, sym, ap, ◌∙◌}
use Rattle.std.proofs.Common.{arith, Option, Some, length-append}
use Rattle.std.specs.Prelude.{All, flat_map}
use Rattle.std.specs.List.{before_first}
use Rattle.std.specs.Option.{option_map, option_map_or}
use Rattle.std.proofs.lemmas.Option.{slice_get-map, slice_get_past}
use Rattle.std.proofs.lemmas.Bool.{cases_Bool}
use Rattle.std.proofs.lemmas.List.{take_all, take_at, drop_at, drop-drop}
use Rattle.std.proofs.lemmas.List.Elements.{All-append, All-cons, All-nil, All-head, All-tail}
use Rattle.macho_image.specs.Layout.{name_at}
use Rattle.macho_image.specs.Commands.{SegmentRecord, nsects}
use Rattle.macho_image.specs.Kinds.{segments}
use Rattle.macho_image.specs.Sections.{SectionRecord, section_record, section_records, sections, sections_in, section_of}
use Rattle.macho_symbols.specs.Symbols.{Tuple}
use Rattle.macho_symbols.specs.Found.{FindsNearest, found_of}
use Rattle.table_symbols.specs.Found.{IsSaid, names_at, owned_view}
use Rattle.table_symbols.specs.Table.{FitsTable, IsTableOf, head_bytes, SectionNames, TableParts, names_of, padded, section_bytes, table_bytes, zeros}
use Rattle.table_symbols.specs.declared.found.OwnedFound.{OwnedFound}
use Rattle.macho_symbols.proofs.Pieces.{before_nul, before_other}
use Rattle.table_symbols.proofs.TableLemmas.{length-head, length-padded}
use Rattle.table_symbols.specs.Rows.{rows_bytes}
use Rattle.macho_symbols.proofs.PlaceLemmas.{get-take}

-- ---- a name in 16 bytes

-- what stands before the first NUL, or all, once more
first_of_zeros : (n : ℕ) → before_first (λ b. b == 0) (zeros n) ≡ []
unfolding zeros
first_of_zeros zero = refl
first_of_zeros (suc n) = refl

first_again : (xs : List ℕ) (n : ℕ) → before_first (λ b. b == 0) (before_first (λ b. b == 0) xs ++ zeros n) ≡ before_first (λ b. b == 0) xs
first_again [] n = first_of_zeros n
first_again (b ∷ bs) n = elim (cases_Bool (b == 0)) [
  | inl e ↦ ap (λ (xs : List ℕ). before_first (λ b. b == 0) (xs ++ zeros n)) (before_nul b bs e) ∙ first_of_zeros n ∙ sym (before_nul b bs e)
  | inr e ↦
      ap (λ (xs : List ℕ). before_first (λ b. b == 0) (xs ++ zeros n)) (before_other b bs e) ∙ before_other b (before_first (λ b. b == 0) bs ++ zeros n) e
      ∙ ap (λ (t : List ℕ). b ∷ t) (first_again bs n) ∙ sym (before_other b bs e)
]

-- the name of a section, as its 16 bytes have it
pub record IsPadded (name : List ℕ) : Type 0 where
  pub short : length name ≤ 16
  pub again : before_first (λ b. b == 0) (padded name) ≡ name

pub short_first : (xs : List ℕ) → length (before_first (λ b. b == 0) xs) ≤ length xs
short_first xs = omega (arith, length-take {A = ℕ})

padded_name : (bytes : List ℕ) (at : ℕ) → IsPadded (name_at bytes at)
padded_name bytes at = record {
  short = omega (arith, short_first (take 16 (drop at bytes)), length-take 16 (drop at bytes));
  again = first_again (take 16 (drop at bytes)) (16 - length (name_at bytes at));
}

-- both names of a section
pub record ArePadded (s : SectionRecord) : Type 0 where
  pub segment : IsPadded s.segment
  pub section : IsPadded s.section

padded_records : (count offset : ℕ) (bytes : List ℕ) → All ArePadded (section_records count offset bytes)
unfolding section_records section_record
padded_records zero offset bytes = All-nil ArePadded
padded_records (suc count) offset bytes =
    All-cons ArePadded (section_record offset bytes) (section_records count (offset + 80) (drop 80 bytes))
    (record { segment = padded_name bytes 16; section = padded_name bytes 0 }) (padded_records count (offset + 80) (drop 80 bytes))

padded_sections : (all : List SegmentRecord) → All ArePadded (flat_map sections_in all)
unfolding sections_in
padded_sections [] = All-nil ArePadded
padded_sections (segment ∷ rest) =
    All-append ArePadded (sections_in segment) (flat_map sections_in rest)
    (padded_records (nsects segment.bytes) (segment.offset + 72) (drop 72 segment.bytes)) (padded_sections rest)

padded_of : (image : List ℕ) → All ArePadded (sections image)
unfolding sections
padded_of image = padded_sections (segments image)

-- ---- the names of a number

zeros_segment : name_at (zeros 32) 0 ≡ []
unfolding zeros
zeros_segment = refl

zeros_section : name_at (zeros 32) 16 ≡ []
unfolding zeros
zeros_section = refl

segment_of_bytes : (s : SectionRecord) → ArePadded s → name_at (section_bytes (names_of s)) 0 ≡ s.segment
segment_of_bytes s are =
    ap (before_first (λ b. b == 0)) (take_at (padded s.segment) (padded s.section) 16 (length-padded s.segment are.segment.short)) ∙ are.segment.again

section_of_bytes : (s : SectionRecord) → ArePadded s → name_at (section_bytes (names_of s)) 16 ≡ s.section
section_of_bytes s are =
    let long : length (padded s.section) ≡ 16 = length-padded s.section are.section.short in
    ap (λ (b : List ℕ). before_first (λ b. b == 0) (take 16 b)) (drop_at (padded s.segment) (padded s.section) 16 (length-padded s.segment are.segment.short))
    ∙ ap (before_first (λ b. b == 0)) (take_all 16 (padded s.section) (omega (arith, long))) ∙ are.section.again

record AreNamesOf (names : List ℕ) (o : Option SectionRecord) : Type 0 where
  pub segment : name_at names 0 ≡ option_map_or (λ s. s.segment) o []
  pub section : name_at names 16 ≡ option_map_or (λ s. s.section) o []

names_found : (all : List SectionRecord) (i : ℕ) → All ArePadded all
    → AreNamesOf (option_map_or section_bytes (option_map names_of (slice_get all i)) (zeros 32)) (slice_get all i)
names_found [] i are = record { segment = zeros_segment; section = zeros_section }
names_found (s ∷ all) zero are =
    let here = All-head ArePadded s all are in
    record { segment = segment_of_bytes s here; section = section_of_bytes s here }
names_found (s ∷ all) (suc i) are = names_found all i (All-tail ArePadded s all are)

names_of_number : (image : List ℕ) (sect : ℕ) → sect < 256 → AreNamesOf (names_at (map names_of (take 255 (sections image))) sect) (section_of image sect)
names_of_number image zero h = record { segment = zeros_segment; section = zeros_section }
names_of_number image (suc i) h =
    let same : slice_get (map names_of (take 255 (sections image))) i ≡ option_map names_of (slice_get (sections image) i) =
    slice_get-map names_of (take 255 (sections image)) i ∙ ap (option_map names_of) (get-take 255 (sections image) i (omega arith)) in
    subst (λ o. AreNamesOf (option_map_or section_bytes o (zeros 32)) (slice_get (sections image) i)) (sym same)
    (names_found (sections image) i (padded_of image))

-- ---- where they stand

long_names : (s : SectionNames) → length s.segment ≤ 16 → length s.section ≤ 16 → length (section_bytes s) ≡ 32
long_names s p q = omega (arith, length-append (padded s.segment) (padded s.section), length-padded s.segment p, length-padded s.section q)

one_stands : (names : List SectionNames) (rest : List ℕ) (i : ℕ) → All (λ s. (length s.segment ≤ 16) × (length s.section ≤ 16)) names → i < length names
    → take 32 (drop (32 * i) (flat_map section_bytes names ++ rest)) ≡ option_map_or section_bytes (slice_get names i) (zeros 32)
one_stands [] rest i fit h = absurd (omega (arith, h))
one_stands (s ∷ names) rest zero fit h =
    let here = All-head (λ (s : SectionNames). (length s.segment ≤ 16) × (length s.section ≤ 16)) s names fit in
    ap (take 32) (append_assoc (section_bytes s) (flat_map section_bytes names) rest)
    ∙ take_at (section_bytes s) (flat_map section_bytes names ++ rest) 32 (long_names s here.0 here.1)
one_stands (s ∷ names) rest (suc i) fit h =
    let here = All-head (λ (s : SectionNames). (length s.segment ≤ 16) × (length s.section ≤ 16)) s names fit in
    let all : List ℕ = (section_bytes s ++ flat_map section_bytes names) ++ rest in
    let far : 32 * suc i ≡ 32 + 32 * i = omega arith in
    ap (λ (n : ℕ). take 32 (drop n all)) far ∙ ap (take 32) (sym (drop-drop (32 * i) 32 all))
    ∙ ap (λ (b : List ℕ). take 32 (drop (32 * i) (drop 32 b))) (append_assoc (section_bytes s) (flat_map section_bytes names) rest)
    ∙ ap (λ (b : List ℕ). take 32 (drop (32 * i) b)) (drop_at (section_bytes s) (flat_map section_bytes names ++ rest) 32 (long_names s here.0 here.1))
    ∙ one_stands names rest i (All-tail (λ (s : SectionNames). (length s.segment ≤ 16) × (length s.section ≤ 16)) s names fit) (omega (arith, h))

in_table : (t : TableParts) (i : ℕ) → FitsTable t → i < length t.names → take 32 (drop (48 + 32 * i) (table_bytes t))
    ≡ option_map_or section_bytes (slice_get t.names i) (zeros 32)
unfolding table_bytes
in_table t i fits h =
    let rest : List ℕ = rows_bytes t.rows ++ (t.strings ++ t.lines) in
    ap (take 32) (sym (drop-drop (32 * i) 48 (table_bytes t)))
    ∙ ap (λ (b : List ℕ). take 32 (drop (32 * i) b)) (drop_at (head_bytes t) (flat_map section_bytes t.names ++ rest) 48 (length-head t))
    ∙ one_stands t.names rest i fits.names h

pub names_read : (t : TableParts) (sect first n : ℕ) (bytes : List ℕ) → FitsTable t → 0 < sect → sect ≤ length t.names → first ≡ 48 + 32 * (sect - 1) → n ≡ 32
    → bytes ≡ take n (drop first (table_bytes t)) → bytes ≡ names_at t.names sect
names_read t zero first n bytes fits some within at long is = absurd (omega (arith, some))
names_read t (suc i) first n bytes fits some within at long is =
    let here : first ≡ 48 + 32 * i = omega (arith, at) in
    is ∙ ap (λ (k : ℕ). take k (drop first (table_bytes t))) long
    ∙ ap (λ (k : ℕ). take 32 (drop k (table_bytes t))) here ∙ in_table t i fits (omega (arith, within))

-- there is no such section
pub none_at : (names : List SectionNames) → names_at names 0 ≡ zeros 32
none_at names = refl

pub none_past : (names : List SectionNames) (sect : ℕ) → length names < sect → names_at names sect ≡ zeros 32
none_past names zero h = absurd (omega (arith, h))
none_past names (suc i) h = ap (λ (o : Option SectionNames). option_map_or section_bytes o (zeros 32)) (slice_get_past names i (omega (arith, h)))

pub no_names : zeros 32 ≡ 0 ∷ 0 ∷ 0 ∷ 0 ∷ 0 ∷ 0 ∷ 0 ∷ 0 ∷ 0 ∷ 0 ∷ 0 ∷ 0 ∷ 0 ∷ 0 ∷ 0 ∷ 0 ∷ 0 ∷ 0 ∷ 0 ∷ 0 ∷ 0 ∷ 0 ∷ 0 ∷ 0 ∷ 0 ∷ 0 ∷ 0 ∷ 0 ∷ 0 ∷ 0 ∷ 0 ∷ 0 ∷ []
unfolding zeros
no_names = refl

-- ---- what is found

found_same : (image : List ℕ) (address : ℕ) (c : Tuple) (f : OwnedFound) → f.symbol.name.items ≡ c.name
    → f.symbol.row.value ≡ c.value → f.symbol.row.sect ≡ c.sect
    → f.offset ≡ address - f.symbol.row.value → AreNamesOf f.names (section_of image c.sect) → owned_view f ≡ found_of image address c
unfolding found_of
found_same image address c f name value sect offset names = λ i. record {
  name = name i;
  address = value i;
  offset = (offset ∙ ap (λ v. address - v) value) i;
  sect = sect i;
  segment = names.segment i;
  section = names.section i;
}

pub found_said : (image : List ℕ) (address : ℕ) (t : TableParts) (f : OwnedFound) → IsTableOf image t
    → IsSaid image address (Some f.symbol) → f.symbol.row.sect < 256
    → f.names ≡ names_at t.names f.symbol.row.sect → f.offset ≡ address - f.symbol.row.value → FindsNearest image address (Some (owned_view f))
found_said image address t f is said small names offset =
    let c : Tuple = said.0 in
    let at : AreNamesOf f.names (section_of image c.sect) =
    subst (λ n. AreNamesOf f.names (section_of image n)) said.3
    (subst (λ ns. AreNamesOf ns (section_of image f.symbol.row.sect))
    (sym (names ∙ ap (λ ns. names_at ns f.symbol.row.sect) is.names))
    (names_of_number image f.symbol.row.sect small)) in
    (Some c, said.1, ap Some (found_same image address c f said.4 said.2 said.3 offset at))
