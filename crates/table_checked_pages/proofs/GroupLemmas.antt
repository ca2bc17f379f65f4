-- Where groups stand among bytes.
use Rattle.std.proofs.Common.{◌≡◌, ℕ, zero, suc, ◌+◌, ◌-◌, ◌*◌, ◌<◌, ◌≤◌, ◌^◌, List, [], ◌∷◌, ◌++◌, length, take, drop, get_or, refl}
use Rattle.std.proofs.Common.{sym, ap, ◌∙◌, arith, length-append}
use Rattle.std.proofs.Common.{ltb, nat_le}
use Rattle.std.specs.Prelude.{Decides}
use Rattle.std.proofs.lemmas.Bool.{cond-false, cond-true, le-ltb, lt-ltb}
use Rattle.std.proofs.lemmas.Bool.Decides.{nat_tests}
use Rattle.std.specs.Int.{w64, from_be_bytes, to_be_bytes}
use Rattle.std.proofs.lemmas.List.{append_assoc, take_at, get_or-map}
use Rattle.std.proofs.lemmas.Nat.{from_be_bytes-to_be_bytes_8}
use Rattle.table_checked_pages.specs.Groups.{AreGroupsIn, GroupRecord, GroupsPlace, IsBytesOf, bytes_of, group_rows, keys_of}
use Rattle.table_checked_pages.specs.Groups.{stored_before, stored_group}
use Rattle.table_checked_pages.specs.InnerGroups.{IsGroupRow}
use Rattle.table_checked_pages.specs.declared.group_reading.GroupRow.{GroupRow}
use Rattle.table_checked_pages.proofs.PlaceLemmas.{drop_past, part_read, part_stands}

-- the number of bytes of the groups before one
abbrev pub before_of : List GroupRecord → ℕ → ℕ
before_of groups i = length (bytes_of (take i groups))

-- ---- rows

unfoldable row_of : ℕ → ℕ → List ℕ
row_of key before = to_be_bytes w64 key ++ to_be_bytes w64 before

length-row : (key before : ℕ) → length (row_of key before) ≡ 16
unfolding row_of
length-row key before = refl

rows-cons : (before : ℕ) (g : GroupRecord) (groups : List GroupRecord) → group_rows before (g ∷ groups)
    ≡ row_of g.key before ++ group_rows (before + length g.bytes) groups
unfolding group_rows row_of
rows-cons before g groups = refl

pub length-group_rows : (before : ℕ) (groups : List GroupRecord) → length (group_rows before groups) ≡ 16 * length groups
unfolding group_rows
length-group_rows before [] = refl
length-group_rows before (g ∷ groups) =
    omega (
      arith,
      length-append (to_be_bytes w64 g.key ++ to_be_bytes w64 before)
          (group_rows (before + length g.bytes) groups),
      length-group_rows (before + length g.bytes) groups,
    )

row_here : (before : ℕ) (groups : List GroupRecord) (rest : List ℕ) (i : ℕ) → i < length groups
    → take 16 (drop (16 * i) (group_rows before groups ++ rest)) ≡ row_of (get_or (keys_of groups) i 0) (before + before_of groups i)
row_here before [] rest i l = absurd (omega arith)
row_here before (g ∷ groups) rest zero l =
    let here : before ≡ before + 0 = omega arith in
    ap (λ b. take 16 (b ++ rest)) (rows-cons before g groups)
    ∙ ap (take 16) (append_assoc (row_of g.key before) (group_rows (before + length g.bytes) groups) rest)
    ∙ take_at (row_of g.key before) (group_rows (before + length g.bytes) groups ++ rest) 16 (length-row g.key before)
    ∙ ap (row_of g.key) here
row_here before (g ∷ groups) rest (suc i) l =
    let far : 16 * suc i ≡ 16 + 16 * i = omega arith in
    let place : before + length g.bytes + before_of groups i ≡ before + before_of (g ∷ groups) (suc i) =
    omega (arith, length-append g.bytes (bytes_of (take i groups))) in
    ap (λ n. take 16 (drop n (group_rows before (g ∷ groups) ++ rest))) far
    ∙ ap (λ b. take 16 (drop (16 + 16 * i) (b ++ rest))) (rows-cons before g groups)
    ∙ ap (λ b. take 16 (drop (16 + 16 * i) b)) (append_assoc (row_of g.key before) (group_rows (before + length g.bytes) groups) rest)
    ∙ ap (take 16) (drop_past (row_of g.key before) (group_rows (before + length g.bytes) groups ++ rest) 16 (16 * i) (length-row g.key before))
    ∙ row_here (before + length g.bytes) groups rest i (omega arith)
    ∙ ap (row_of (get_or (keys_of groups) i 0)) place

key_in : (key before : ℕ) → key < 2 ^ 64 → from_be_bytes w64 (take 8 (drop 0 (row_of key before))) ≡ key
unfolding row_of
key_in key before fits =
    ap (from_be_bytes w64) (take_at (to_be_bytes w64 key) (to_be_bytes w64 before) 8 refl) ∙ from_be_bytes-to_be_bytes_8 key fits

before_in : (key before : ℕ) → before < 2 ^ 64 → from_be_bytes w64 (take 8 (drop 8 (row_of key before))) ≡ before
unfolding row_of
before_in key before fits = from_be_bytes-to_be_bytes_8 before fits

-- ---- bytes

bytes_here : (groups : List GroupRecord) (i : ℕ) (d : GroupRecord) → i < length groups
    → take (length (get_or groups i d).bytes) (drop (before_of groups i) (bytes_of groups)) ≡ (get_or groups i d).bytes
bytes_here [] i d l = absurd (omega arith)
bytes_here (g ∷ groups) zero d l = take_at g.bytes (bytes_of groups) (length g.bytes) refl
bytes_here (g ∷ groups) (suc i) d l =
    ap (λ n. take (length (get_or groups i d).bytes) (drop n (g.bytes ++ bytes_of groups))) (length-append g.bytes (bytes_of (take i groups)))
    ∙ ap (take (length (get_or groups i d).bytes)) (drop_past g.bytes (bytes_of groups) (length g.bytes) (before_of groups i) refl)
    ∙ bytes_here groups i d (omega arith)

before_next : (groups : List GroupRecord) (i : ℕ) (d : GroupRecord) → i < length groups
    → before_of groups (suc i) ≡ before_of groups i + length (get_or groups i d).bytes
before_next [] i d l = absurd (omega arith)
before_next (g ∷ groups) zero d l = omega (arith, length-append g.bytes [])
before_next (g ∷ groups) (suc i) d l = omega (
  arith,
  length-append g.bytes (bytes_of (take (suc i) groups)),
  length-append g.bytes (bytes_of (take i groups)),
  before_next groups i d (omega arith),
)

pub before_more : (groups : List GroupRecord) (i : ℕ) (d : GroupRecord) → i < length groups
    → before_of groups (i + 1) ≡ before_of groups i + length (get_or groups i d).bytes
before_more groups i d l =
    let next : i + 1 ≡ suc i = omega arith in
    ap (before_of groups) next ∙ before_next groups i d l

before_all : (groups : List GroupRecord) (i : ℕ) → length groups ≤ i → before_of groups i ≡ length (bytes_of groups)
before_all [] zero l = refl
before_all [] (suc i) l = refl
before_all (g ∷ groups) zero l = absurd (omega arith)
before_all (g ∷ groups) (suc i) l = omega (
  arith,
  length-append g.bytes (bytes_of groups),
  length-append g.bytes (bytes_of (take i groups)),
  before_all groups i (omega arith),
)

pub before_within : (groups : List GroupRecord) (i : ℕ) → before_of groups i ≤ length (bytes_of groups)
before_within [] zero = omega arith
before_within [] (suc i) = omega arith
before_within (g ∷ groups) zero = omega arith
before_within (g ∷ groups) (suc i) =
    omega (arith, length-append g.bytes (bytes_of groups), length-append g.bytes (bytes_of (take i groups)), before_within groups i)

-- ---- among other bytes

module _ (all : List ℕ) (place : GroupsPlace) (groups : List GroupRecord) (are : AreGroupsIn all place groups) where
  long : length (group_rows 0 groups ++ bytes_of groups) ≡ 16 * place.count + place.size
  long = omega (arith, length-append (group_rows 0 groups) (bytes_of groups), length-group_rows 0 groups, are.count, are.size)

  pub groups_within : place.offset + 16 * place.count + place.size ≤ length all
  groups_within = omega (arith, are.stands.0, long)

  pub row_read : (bytes : List ℕ) (index n offset : ℕ) (row : GroupRow) → index < place.count → n ≡ 16
      → offset ≡ place.offset + 16 * index → length all < 2 ^ 64 → bytes ≡ take n (drop offset all)
      → row.key ≡ from_be_bytes w64 (take 8 (drop 0 bytes)) → row.before ≡ from_be_bytes w64 (take 8 (drop 8 bytes))
      → IsGroupRow groups index row
  row_read bytes index n offset row inside wide at few came key before =
      let there : index < length groups = omega (arith, inside, are.count) in
      let fits : 16 * index + 16 ≤ length (group_rows 0 groups ++ bytes_of groups) = omega (arith, long, inside) in
      let here : bytes ≡ row_of (get_or (keys_of groups) index 0) (0 + before_of groups index) =
      came ∙ ap (λ k. take k (drop offset all)) wide ∙ ap (λ k. take 16 (drop k all)) at
      ∙ part_stands all (group_rows 0 groups ++ bytes_of groups) place.offset (16 * index) 16 are.stands fits
      ∙ row_here 0 groups (bytes_of groups) index there in
      record {
        key = key ∙ ap (λ b. from_be_bytes w64 (take 8 (drop 0 b))) here
            ∙ key_in (get_or (keys_of groups) index 0) (0 + before_of groups index) (key_fits index there);
        before = before ∙ ap (λ b. from_be_bytes w64 (take 8 (drop 8 b))) here
            ∙ before_in (get_or (keys_of groups) index 0) (0 + before_of groups index)
            (omega (arith, before_within groups index, are.size, groups_within, few)) ∙ omega arith;
      }
    where
      key_fits : (i : ℕ) → i < length groups → get_or (keys_of groups) i 0 < 2 ^ 64
      key_fits i l =
          let d : GroupRecord = record { key = 0; bytes = [] } in
          let fit = are.fit i d l in
          omega (arith, fit.0, get_or-map (λ (g : GroupRecord). g.key) groups i d 0 l)

  -- the bytes of a group, from its place on
  pub bytes_are : (index begin end : ℕ) → index < place.count → begin ≡ before_of groups index
      → end ≡ before_of groups (index + 1) → IsBytesOf all groups index (place.offset + 16 * place.count + begin) (end - begin)
  bytes_are index begin end inside begins ends = record {
    inside = omega (arith, groups_within, ends, before_within groups (index + 1), are.size, order);
    are = λ d.
        let size : end - begin ≡ length (get_or groups index d).bytes = omega (arith, begins, ends, before_more groups index d there) in
        let from : place.offset + 16 * place.count + begin ≡ place.offset + (16 * length groups + before_of groups index) = omega (arith, are.count, begins) in
        ap (λ k. take k (drop (place.offset + 16 * place.count + begin) all)) size
        ∙ ap (λ k. take (length (get_or groups index d).bytes) (drop k all)) from
        ∙ part_stands all (group_rows 0 groups ++ bytes_of groups) place.offset (16 * length groups + before_of groups index)
        (length (get_or groups index d).bytes) are.stands
        (omega (arith, long, are.count, are.size, before_more groups index d there, before_within groups (index + 1)))
        ∙ ap (take (length (get_or groups index d).bytes)) (drop_past (group_rows 0 groups) (bytes_of groups)
        (16 * length groups) (before_of groups index) (length-group_rows 0 groups))
        ∙ bytes_here groups index d there;
  }
    where
      there : index < length groups
      there = omega (arith, inside, are.count)

      order : begin ≤ end
      order = omega (arith, begins, ends, before_more groups index (record { key = 0; bytes = [] }) there)

  -- a group has few bytes, and ends within all
  pub few_bytes : (index begin end : ℕ) → index < place.count → begin ≡ before_of groups index
      → end ≡ before_of groups (index + 1) → (begin ≤ end) × (end ≤ place.size) × (end - begin ≤ 5120)
  few_bytes index begin end inside begins ends =
      let d : GroupRecord = record { key = 0; bytes = [] } in
      let there : index < length groups = omega (arith, inside, are.count) in
      let fit = are.fit index d there in
      let more = before_more groups index d there in (
        omega (arith, begins, ends, more),
        omega (arith, ends, before_within groups (index + 1), are.size),
        omega (arith, begins, ends, more, fit.1),
      )

  pub all_before : (index : ℕ) → index ≡ place.count → place.size ≡ before_of groups index
  all_before index last = are.size ∙ sym (before_all groups index (omega (arith, last, are.count)))

-- ---- of any bytes

-- a row that was read states the bytes before its group
pub stored_row : (all bytes : List ℕ) (place : GroupsPlace) (index n offset : ℕ) → index < place.count → n ≡ 16
    → offset ≡ place.offset + 16 * index → bytes ≡ take n (drop offset all)
    → from_be_bytes w64 (take 8 (drop 8 bytes)) ≡ stored_before all place index
stored_row all bytes place index n offset inside wide at came =
    let from : offset + 8 ≡ place.offset + 16 * index + 8 = omega (arith, at) in
    ap (from_be_bytes w64) (part_read 8 8 n offset all bytes (omega (arith, wide)) came
    ∙ ap (λ k. take 8 (drop k all)) from)
    ∙ sym (cond-true (ltb index place.count) _ place.size (lt-ltb index place.count inside))

pub stored_end : (all : List ℕ) (place : GroupsPlace) (index : ℕ) → index ≡ place.count → place.size ≡ stored_before all place index
stored_end all place index last = sym (cond-false (ltb index place.count) _ place.size (le-ltb index place.count (omega (arith, last))))

-- the bytes from the place of a group on are its bytes
pub stored_there : (all : List ℕ) (place : GroupsPlace) (index begin end : ℕ) → begin ≡ stored_before all place index
    → end ≡ stored_before all place (index + 1)
    → take (end - begin) (drop (place.offset + 16 * place.count + begin) all) ≡ stored_group all place index
stored_there all place index begin end begins ends =
    ap (λ k. take (end - k) (drop (place.offset + 16 * place.count + k) all)) begins
    ∙ ap (λ k. take (k - stored_before all place index) (drop (place.offset + 16 * place.count + stored_before all place index) all)) ends

-- a key that was read decides whether it is above another
pub key_decides : (groups : List GroupRecord) (key n index : ℕ) → n ≡ get_or (keys_of groups) index 0
    → Decides (nat_le n key) (get_or (keys_of groups) index 0 ≤ key)
key_decides groups key n index same = (
  λ t.
      let within : n ≤ key = grind (arith, nat_tests, t) in
      omega (arith, within, same),
  λ h.
      let within : n ≤ key = omega (arith, h, same) in
      grind (arith, nat_tests),
)
