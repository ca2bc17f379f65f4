-- Rows in the bytes of a table.
use Rattle.std.proofs.Common.{◌≡◌, ℕ, zero, suc, ◌+◌, ◌*◌, ◌-◌, ◌<◌, ◌≤◌, List, [], ◌∷◌, ◌++◌, length, take, drop}
use Rattle.std.proofs.Common.{get_or, refl, sym, ap, ◌∙◌, subst, arith, length-append, append_assoc, slice_get, Some}
use Rattle.std.proofs.Common.{inl, inr, nat_le}
use Rattle.std.specs.Prelude.{slice_index_or, All, Decides, Option, None}
use Rattle.std.specs.Int.{w32, w64, from_be_bytes}
use Rattle.std.proofs.lemmas.List.{append-nil, get_or_default, take_at, drop_at, drop-drop}
use Rattle.table_checked_pages.specs.Standing.{Stands}
use Rattle.table_checked_pages.proofs.PlaceLemmas.{part_stands}
use Rattle.std.proofs.lemmas.Nat.{from_be_bytes-to_be_bytes_4, from_be_bytes-to_be_bytes_8}
use Rattle.macho_symbols.specs.Rows.{IsRowFor, IsLastNotAbove, AreAbove}
use Rattle.table_symbols.specs.Rows.{row_bytes, rows_bytes, IsRow, AreRows}
use Rattle.macho_symbols.specs.declared.row.Row.{Row}
use Rattle.std.proofs.lemmas.Option.{slice_get_within, get_or_from_slice_get, slice_get-get_or}
use Rattle.std.proofs.lemmas.Bool.{cases_lt}
use Rattle.std.proofs.lemmas.Bool.Decides.{nat_tests}
use Rattle.std.proofs.lemmas.List.Elements.{All-get_or, All-head, All-tail}

pub length-row_bytes : (r : Row) → length (row_bytes r) ≡ 21
unfolding row_bytes
length-row_bytes r = refl

pub length-rows_bytes : (rows : List Row) → length (rows_bytes rows) ≡ 21 * length rows
length-rows_bytes [] = refl
length-rows_bytes (r ∷ rows) = omega (arith, length-append (row_bytes r) (rows_bytes rows), length-row_bytes r, length-rows_bytes rows)

-- ---- the fields of a row

pub start_in : (r : Row) → IsRow r → from_be_bytes w64 (take 8 (drop 0 (row_bytes r))) ≡ r.start
unfolding row_bytes
start_in r is = from_be_bytes-to_be_bytes_8 r.start is.start

pub value_in : (r : Row) → IsRow r → from_be_bytes w64 (take 8 (drop 8 (row_bytes r))) ≡ r.value
unfolding row_bytes
value_in r is = from_be_bytes-to_be_bytes_8 r.value is.value

pub place_in : (r : Row) → IsRow r → from_be_bytes w32 (take 4 (drop 16 (row_bytes r))) ≡ r.n_strx
unfolding row_bytes
place_in r is = from_be_bytes-to_be_bytes_4 r.n_strx is.n_strx

pub sect_in : (r : Row) → get_or (row_bytes r) 20 0 ≡ r.sect
unfolding row_bytes
sect_in r = refl

-- what is read of a row's bytes is the row
pub read_row : (bytes : List ℕ) (start value place sect : ℕ) (r : Row) → IsRow r → bytes ≡ row_bytes r
    → start ≡ from_be_bytes w64 (take 8 (drop 0 bytes)) → value ≡ from_be_bytes w64 (take 8 (drop 8 bytes))
    → place ≡ from_be_bytes w32 (take 4 (drop 16 bytes)) → sect ≡ get_or bytes 20 0
    → record { start = start; value = value; n_strx = place; sect = sect } ≡ r
read_row bytes start value place sect r is e s v p n =
    let start_is : start ≡ r.start = s ∙ ap (λ b. from_be_bytes w64 (take 8 (drop 0 b))) e ∙ start_in r is in
    let value_is : value ≡ r.value = v ∙ ap (λ b. from_be_bytes w64 (take 8 (drop 8 b))) e ∙ value_in r is in
    let place_is : place ≡ r.n_strx = p ∙ ap (λ b. from_be_bytes w32 (take 4 (drop 16 b))) e ∙ place_in r is in
    let sect_is : sect ≡ r.sect = n ∙ ap (λ b. get_or b 20 0) e ∙ sect_in r in
    λ i. record { start = start_is i; value = value_is i; n_strx = place_is i; sect = sect_is i }

-- ---- the rows of a table, one after another

pub row_here : (rows : List Row) (rest : List ℕ) (i : ℕ) (d : Row) → i < length rows
    → take 21 (drop (21 * i) (rows_bytes rows ++ rest)) ≡ row_bytes (slice_index_or rows i d)
row_here [] rest i d h = absurd (omega arith)
row_here (r ∷ rows) rest zero d h = ap (take 21) (append_assoc (row_bytes r) (rows_bytes rows) rest)
    ∙ take_at (row_bytes r) (rows_bytes rows ++ rest) 21 (length-row_bytes r)
row_here (r ∷ rows) rest (suc i) d h =
    let all : List ℕ = row_bytes r ++ (rows_bytes rows ++ rest) in
    let behind : drop 21 all ≡ rows_bytes rows ++ rest = drop_at (row_bytes r) (rows_bytes rows ++ rest) 21 (length-row_bytes r) in
    let far : 21 * suc i ≡ 21 + 21 * i = omega arith in
    ap (λ b. take 21 (drop (21 * suc i) b)) (append_assoc (row_bytes r) (rows_bytes rows) rest)
    ∙ ap (λ n. take 21 (drop n all)) far ∙ ap (take 21) (sym (drop-drop (21 * i) 21 all))
    ∙ ap (λ b. take 21 (drop (21 * i) b)) behind ∙ row_here rows rest i d (omega arith)

-- ---- one row, and one table

-- of two rows that are the last not above an address none stands before the other
not_before : (rows : List Row) (address : ℕ) (r s : Row) (a : IsLastNotAbove rows address r) (b : IsLastNotAbove rows address s) → a.at < b.at → ⊥
not_before rows address r s a b before =
    let same : get_or rows b.at r ≡ s = get_or_from_slice_get rows b.at s r b.stands in
    let above : address < s.start = subst (λ (t : Row). address < t.start) same (a.others b.at r before (slice_get_within rows b.at s b.stands)) in
    omega (arith, above, b.not_above)

one_last : (rows : List Row) (address : ℕ) (r s : Row) → IsLastNotAbove rows address r → IsLastNotAbove rows address s → r ≡ s
one_last rows address r s a b = elim (cases_lt a.at b.at) [
  | inl before ↦ absurd (not_before rows address r s a b before)
  | inr l ↦ elim (cases_lt b.at a.at) [
    | inl before ↦ absurd (not_before rows address s r b a before)
    | inr k ↦
        let same : a.at ≡ b.at = omega arith in
        sym (get_or_from_slice_get rows a.at r r a.stands) ∙ ap (λ n. get_or rows n r) same ∙ get_or_from_slice_get rows b.at s r b.stands
  ]
]

last_is_not_above : (rows : List Row) (address : ℕ) (r : Row) → IsLastNotAbove rows address r → AreAbove rows address → ⊥
last_is_not_above rows address r a above =
    let same : get_or rows a.at r ≡ r = get_or_from_slice_get rows a.at r r a.stands in
    let is : address < r.start = subst (λ (t : Row). address < t.start) same (above a.at r (slice_get_within rows a.at r a.stands)) in
    omega (arith, is, a.not_above)

pub only_row : (rows : List Row) (address : ℕ) (found other : Option Row) → IsRowFor rows address found → IsRowFor rows address other → found ≡ other
only_row rows address None None a b = refl
only_row rows address None (Some s) a b = absurd (last_is_not_above rows address s b a)
only_row rows address (Some r) None a b = absurd (last_is_not_above rows address r a b)
only_row rows address (Some r) (Some s) a b = ap Some (one_last rows address r s a b)

row_again : (r s : Row) → IsRow r → IsRow s → row_bytes r ≡ row_bytes s → r ≡ s
row_again r s is other e = read_row (row_bytes s) r.start r.value r.n_strx r.sect s other refl
    (sym (start_in r is) ∙ ap (λ b. from_be_bytes w64 (take 8 (drop 0 b))) e)
    (sym (value_in r is) ∙ ap (λ b. from_be_bytes w64 (take 8 (drop 8 b))) e)
    (sym (place_in r is) ∙ ap (λ b. from_be_bytes w32 (take 4 (drop 16 b))) e)
    (sym (sect_in r) ∙ ap (λ b. get_or b 20 0) e)

pub only_rows : (rows others : List Row) → All IsRow rows → All IsRow others → rows_bytes rows ≡ rows_bytes others → rows ≡ others
only_rows [] [] are others_are same = refl
only_rows [] (s ∷ others) are others_are same = absurd (omega (arith, ap length same, length-rows_bytes (s ∷ others)))
only_rows (r ∷ rows) [] are others_are same = absurd (omega (arith, ap length same, length-rows_bytes (r ∷ rows)))
only_rows (r ∷ rows) (s ∷ others) are others_are same =
    let first : row_bytes r ≡ row_bytes s = sym (take_at (row_bytes r) (rows_bytes rows) 21 (length-row_bytes r))
    ∙ ap (take 21) same ∙ take_at (row_bytes s) (rows_bytes others) 21 (length-row_bytes s) in
    let rest : rows_bytes rows ≡ rows_bytes others = sym
    (drop_at (row_bytes r) (rows_bytes rows) 21 (length-row_bytes r)) ∙ ap (drop 21) same
    ∙ drop_at (row_bytes s) (rows_bytes others) 21 (length-row_bytes s) in
    let head = row_again r s (All-head IsRow r rows are) (All-head IsRow s others others_are) first in
    let tail = only_rows rows others (All-tail IsRow r rows are) (All-tail IsRow s others others_are) rest in
    λ i. head i ∷ tail i

-- ---- the search in the bytes

-- after a row that begins above an address all rows do
pub above_from : (rows : List Row) (address middle : ℕ) (row : Row) → AreRows rows → slice_get rows middle ≡ Some row → address < row.start
    → (j : ℕ) (d : Row) → middle ≤ j → j < length rows → address < (slice_index_or rows j d).start
above_from rows address middle row are stands above j d low l =
    let here : (slice_index_or rows middle d).start ≡ row.start = ap (λ (r : Row). r.start) (get_or_from_slice_get rows middle row d stands) in
    elim (cases_lt middle j) [
      | inl k ↦ omega (arith, here, above, are.rising middle j d k l)
      | inr k ↦
          let same : middle ≡ j = omega arith in
          subst (λ n. address < (slice_index_or rows n d).start) same (omega (arith, here, above))
    ]

-- from the place on at which rows end to begin at an address or below it, all begin above it
pub above_edge : (rows : List Row) (address place : ℕ) → AreRows rows → (place < length rows → ((d : Row) → (slice_index_or rows place d).start ≤ address) → ⊥)
    → (j : ℕ) (d : Row) → place ≤ j → j < length rows → address < (slice_index_or rows j d).start
above_edge rows address place are at j d low l =
    let within : place < length rows = omega (arith, low, l) in
    elim (cases_lt address (slice_index_or rows place d).start) [
      | inl above ↦ above_from rows address place (slice_index_or rows place d) are (slice_get-get_or rows place d within) above j d low l
      | inr below ↦ absurd (at within (λ e. subst (λ (r : Row). r.start ≤ address) (get_or_default rows place d e within) below))
    ]

-- the row before that place is the last one
pub last_of_edge : (rows : List Row) (address place : ℕ) (row : Row) → AreRows rows → 0 < place
    → ((d : Row) → (slice_index_or rows (place - 1) d).start ≤ address)
    → (place < length rows → ((d : Row) → (slice_index_or rows place d).start ≤ address) → ⊥)
    → slice_get rows (place - 1) ≡ Some row → IsLastNotAbove rows address row
last_of_edge rows address place row are some before at stands = record {
  at = place - 1;
  stands = stands;
  not_above = subst (λ (r : Row). r.start ≤ address) (get_or_from_slice_get rows (place - 1) row row stands) (before row);
  others = λ j d l m. above_edge rows address place are at j d (omega (arith, l, some)) m;
}

no_row : Row
no_row = record { start = 0; value = 0; n_strx = 0; sect = 0 }

-- the row that was read tells whether its start is not above
pub start_decides : (rows : List Row) (address place : ℕ) (row : Row) → slice_get rows place ≡ Some row
    → Decides (nat_le row.start address) ((d : Row) → (slice_index_or rows place d).start ≤ address)
start_decides rows address place row stands = (
  λ t d.
      let within : row.start ≤ address = grind (arith, nat_tests, t) in
      omega (arith, within, here d),
  λ h.
      let within : row.start ≤ address = omega (arith, h no_row, here no_row) in
      grind (arith, nat_tests),
)
  where
    here : (d : Row) → (slice_index_or rows place d).start ≡ row.start
    here d = ap (λ (r : Row). r.start) (get_or_from_slice_get rows place row d stands)

-- ---- where the rows stand

-- the row that bytes are which were read
pub row_read : (all bytes : List ℕ) (rows : List Row) (first index n : ℕ) (row d : Row) → AreRows rows
    → Stands all first (rows_bytes rows) → index < length rows
    → n ≡ 21 → bytes ≡ take n (drop (first + 21 * index) all) → ((r : Row) → IsRow r → bytes ≡ row_bytes r → row ≡ r) → slice_get rows index ≡ Some row
row_read all bytes rows first index n row d are stands within long came reads =
    let here : Row = get_or rows index d in
    let is_row : IsRow here = All-get_or IsRow rows index d within are.each in
    let fits : 21 * index + 21 ≤ length (rows_bytes rows) = omega (arith, length-rows_bytes rows, within) in
    let bytes_are : bytes ≡ row_bytes here =
    came ∙ ap (λ k. take k (drop (first + 21 * index) all)) long ∙ part_stands all (rows_bytes rows) first (21 * index) 21 stands fits
    ∙ ap (λ b. take 21 (drop (21 * index) b)) (sym (append-nil (rows_bytes rows))) ∙ row_here rows [] index d within in
    slice_get-get_or rows index d within ∙ ap Some (sym (reads here is_row bytes_are))
