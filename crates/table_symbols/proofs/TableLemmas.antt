-- The bytes of a table, and the numbers of its head.
use Rattle.std.proofs.Common.{◌≡◌, ℕ, zero, suc, ◌+◌, ◌*◌, ◌-◌, ◌<◌, ◌≤◌, ◌^◌, List, [], ◌∷◌, ◌++◌, length, take, drop}
use Rattle.std.proofs.Common.{refl, sym, ap, ◌∙◌, arith, length-append, subst, Option, Some, None}
use Rattle.std.specs.Prelude.{All, flat_map}
use Rattle.std.specs.Int.{w64, from_be_bytes}
use Rattle.std.proofs.lemmas.List.{append_assoc, take_at, drop_at}
use Rattle.std.proofs.lemmas.List.Elements.{All-head, All-tail}
use Rattle.std.proofs.lemmas.Nat.{from_be_bytes-to_be_bytes_8}
use Rattle.table_symbols.specs.Table.{FitsTable, SectionNames, TableParts, base_flag, base_or_zero, head_bytes, padded, section_bytes, table_bytes, zeros}
use Rattle.table_symbols.specs.Rows.{rows_bytes}
use Rattle.table_checked_pages.specs.Standing.{IsRestFrom, Stands}
use Rattle.table_symbols.proofs.RowLemmas.{length-rows_bytes}
use Rattle.table_symbols.specs.Opened.{IsHeadOf}
use Rattle.table_symbols.specs.declared.head.Head.{Head}

-- ---- the numbers of a head

flag_fits : (base : Option ℕ) → base_flag base < 2 ^ 64
flag_fits None = omega arith
flag_fits (Some base) = omega arith

flag_in : (t : TableParts) → from_be_bytes w64 (take 8 (drop 0 (head_bytes t))) ≡ base_flag t.base
unfolding head_bytes
flag_in t = from_be_bytes-to_be_bytes_8 (base_flag t.base) (flag_fits t.base)

base_in : (t : TableParts) → FitsTable t → from_be_bytes w64 (take 8 (drop 8 (head_bytes t))) ≡ base_or_zero t.base
unfolding head_bytes
base_in t fits = from_be_bytes-to_be_bytes_8 (base_or_zero t.base) fits.base

names_in : (t : TableParts) → FitsTable t → from_be_bytes w64 (take 8 (drop 16 (head_bytes t))) ≡ length t.names
unfolding head_bytes
names_in t fits = from_be_bytes-to_be_bytes_8 (length t.names) (omega (arith, fits.size))

rows_in : (t : TableParts) → FitsTable t → from_be_bytes w64 (take 8 (drop 24 (head_bytes t))) ≡ length t.rows
unfolding head_bytes
rows_in t fits = from_be_bytes-to_be_bytes_8 (length t.rows) (omega (arith, fits.size))

strings_in : (t : TableParts) → FitsTable t → from_be_bytes w64 (take 8 (drop 32 (head_bytes t))) ≡ length t.strings
unfolding head_bytes
strings_in t fits = from_be_bytes-to_be_bytes_8 (length t.strings) (omega (arith, fits.size))

lines_in : (t : TableParts) → FitsTable t → from_be_bytes w64 (take 8 (drop 40 (head_bytes t))) ≡ length t.lines
unfolding head_bytes
lines_in t fits = from_be_bytes-to_be_bytes_8 (length t.lines) (omega (arith, fits.size))

pub head_read : (bytes : List ℕ) (t : TableParts) (head : Head) (flag value : ℕ) → FitsTable t → bytes ≡ head_bytes t
    → flag ≡ from_be_bytes w64 (take 8 (drop 0 bytes)) → value ≡ from_be_bytes w64 (take 8 (drop 8 bytes))
    → ((base : Option ℕ) → flag ≡ base_flag base → value ≡ base_or_zero base → head.base ≡ base)
    → head.sections ≡ from_be_bytes w64 (take 8 (drop 16 bytes)) → head.rows ≡ from_be_bytes w64 (take 8 (drop 24 bytes))
    → head.strings ≡ from_be_bytes w64 (take 8 (drop 32 bytes)) → head.lines ≡ from_be_bytes w64 (take 8 (drop 40 bytes)) → IsHeadOf head t
head_read bytes t head flag value fits e f v base n r s l = record {
  base = base t.base (f ∙ ap (λ b. from_be_bytes w64 (take 8 (drop 0 b))) e ∙ flag_in t)
      (v ∙ ap (λ b. from_be_bytes w64 (take 8 (drop 8 b))) e ∙ base_in t fits);
  sections = n ∙ ap (λ b. from_be_bytes w64 (take 8 (drop 16 b))) e ∙ names_in t fits;
  rows = r ∙ ap (λ b. from_be_bytes w64 (take 8 (drop 24 b))) e ∙ rows_in t fits;
  strings = s ∙ ap (λ b. from_be_bytes w64 (take 8 (drop 32 b))) e ∙ strings_in t fits;
  lines = l ∙ ap (λ b. from_be_bytes w64 (take 8 (drop 40 b))) e ∙ lines_in t fits;
}

-- ---- how many bytes there are

length-zeros : (n : ℕ) → length (zeros n) ≡ n
unfolding zeros
length-zeros zero = refl
length-zeros (suc n) = ap suc (length-zeros n)

pub length-padded : (name : List ℕ) → length name ≤ 16 → length (padded name) ≡ 16
length-padded name h = omega (arith, h, length-append name (zeros (16 - length name)), length-zeros (16 - length name))

pub length-names : (names : List SectionNames) → All (λ s. (length s.segment ≤ 16) × (length s.section ≤ 16)) names
    → length (flat_map section_bytes names) ≡ 32 * length names
length-names [] fit = refl
length-names (s ∷ names) fit =
    let here = All-head (λ s. (length s.segment ≤ 16) × (length s.section ≤ 16)) s names fit in
    let rest = length-names names (All-tail (λ s. (length s.segment ≤ 16) × (length s.section ≤ 16)) s names fit) in
    omega (
      arith,
      rest,
      length-append (section_bytes s) (flat_map section_bytes names),
      length-append (padded s.segment) (padded s.section),
      length-padded s.segment here.0,
      length-padded s.section here.1,
    )

pub length-head : (t : TableParts) → length (head_bytes t) ≡ 48
unfolding head_bytes
length-head t = refl

pub length-table : (t : TableParts) → FitsTable t → length (table_bytes t) ≡ 48 + 32 * length t.names + 21 * length t.rows + length t.strings + length t.lines
unfolding table_bytes
length-table t fits =
    omega (
      arith,
      length-head t,
      length-names t.names fits.names,
      length-rows_bytes t.rows,
      length-append (head_bytes t) (flat_map section_bytes t.names ++ (rows_bytes t.rows ++ (t.strings ++ t.lines))),
      length-append (flat_map section_bytes t.names) (rows_bytes t.rows ++ (t.strings ++ t.lines)),
      length-append (rows_bytes t.rows) (t.strings ++ t.lines),
      length-append t.strings t.lines,
    )

-- ---- where the parts stand

head_stands : (t : TableParts) → take 48 (drop 0 (table_bytes t)) ≡ head_bytes t
unfolding table_bytes
head_stands t = take_at (head_bytes t) (flat_map section_bytes t.names ++ (rows_bytes t.rows ++ (t.strings ++ t.lines))) 48 (length-head t)

pub head_in : (t : TableParts) (bytes : List ℕ) (n : ℕ) → n ≡ 48 → bytes ≡ take n (drop 0 (table_bytes t)) → bytes ≡ head_bytes t
head_in t bytes n long is = is ∙ ap (λ k. take k (drop 0 (table_bytes t))) long ∙ head_stands t

-- a head that is read is that of the table, whose bytes are as many as the claim says
pub table_has_size : (t : TableParts) (head : Head) (size : ℕ) → FitsTable t → IsHeadOf head t → length (table_bytes t)
    ≡ size → size ≡ 48 + 32 * head.sections + 21 * head.rows + head.strings + head.lines
table_has_size t head size fits is long = omega (arith, long, length-table t fits, is.sections, is.rows, is.strings, is.lines)

-- bytes stand between others
between : (a b c : List ℕ) (n : ℕ) → length a ≡ n → Stands (a ++ (b ++ c)) n b
between a b c n is = (
  omega (arith, is, length-append a (b ++ c), length-append b c),
  ap (take (length b)) (drop_at a (b ++ c) n is) ∙ take_at b c (length b) refl,
)

pub rows_stand : (t : TableParts) (n : ℕ) → FitsTable t → n ≡ 48 + 32 * length t.names → Stands (table_bytes t) n (rows_bytes t.rows)
unfolding table_bytes
rows_stand t n fits is =
    let front : List ℕ = head_bytes t ++ flat_map section_bytes t.names in
    subst (λ b. Stands b n (rows_bytes t.rows)) (append_assoc (head_bytes t) (flat_map section_bytes t.names) (rows_bytes t.rows ++ (t.strings ++ t.lines)))
    (between front (rows_bytes t.rows) (t.strings ++ t.lines) n
    (omega (
      arith,
      is,
      length-append (head_bytes t) (flat_map section_bytes t.names),
      length-head t,
      length-names t.names fits.names,
    )))

-- what stands before the strings, and they and the lines
parts_after : (t : TableParts) → ((head_bytes t ++ flat_map section_bytes t.names) ++ rows_bytes t.rows) ++ (t.strings ++ t.lines) ≡ table_bytes t
unfolding table_bytes
parts_after t =
    let names : List ℕ = flat_map section_bytes t.names in
    append_assoc (head_bytes t ++ names) (rows_bytes t.rows) (t.strings ++ t.lines)
    ∙ append_assoc (head_bytes t) names (rows_bytes t.rows ++ (t.strings ++ t.lines))

pub strings_stand : (t : TableParts) (n : ℕ) → FitsTable t → n ≡ 48 + 32 * length t.names + 21 * length t.rows → Stands (table_bytes t) n t.strings
unfolding table_bytes
strings_stand t n fits is =
    let names : List ℕ = flat_map section_bytes t.names in
    let front : List ℕ = (head_bytes t ++ names) ++ rows_bytes t.rows in
    subst (λ b. Stands b n t.strings) (parts_after t)
    (between front t.strings t.lines n (omega (
      arith,
      is,
      length-append (head_bytes t ++ names) (rows_bytes t.rows),
      length-append (head_bytes t) names,
      length-head t,
      length-names t.names fits.names,
      length-rows_bytes t.rows,
    )))

-- the strings and the lines are the rest of a table
pub strings_rest : (t : TableParts) (n : ℕ) → FitsTable t → n ≡ 48 + 32 * length t.names + 21 * length t.rows
    → IsRestFrom (table_bytes t) n (t.strings ++ t.lines)
strings_rest t n fits is =
    let names : List ℕ = flat_map section_bytes t.names in
    let front : List ℕ = (head_bytes t ++ names) ++ rows_bytes t.rows in
    let long : length front ≡ n =
    omega (
      arith,
      is,
      length-append (head_bytes t ++ names) (rows_bytes t.rows),
      length-append (head_bytes t) names,
      length-head t,
      length-names t.names fits.names,
      length-rows_bytes t.rows,
    ) in
    (omega (arith, is, length-table t fits), ap (drop n) (sym (parts_after t)) ∙ drop_at front (t.strings ++ t.lines) n long)
