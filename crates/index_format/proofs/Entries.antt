-- Entries as values and as bytes.
use Rattle.std.proofs.Common.{◌≡◌, ℕ, ◌-◌, ◌<◌, ◌^◌, zero, suc, Bool, cond, List, [], ◌∷◌, ◌++◌, length, map, take}
use Rattle.std.proofs.Common.{drop, get_or, refl, sym, ap, ◌∙◌, subst, arith, length-append, length-drop, append_assoc}
use Rattle.std.specs.Prelude.{slice_set}
use Rattle.std.specs.Int.{w64, to_be_bytes}
use Rattle.std.specs.List.{AllByRecursion}
use Rattle.std.proofs.Math.Seq.{drop-cons}
use Rattle.std.proofs.lemmas.List.{take_all, take-append-drop, drop-drop}
use borrow.Rule.Slice.PartMut.{put_mid}
use Rattle.sha2.specs.Sha256.{sha256}
use Rattle.macho_image.specs.Contents.{is_dsym_image}
use Rattle.table_checked_pages.specs.declared.claim.Claim.{Claim}
use Rattle.archive_core.specs.Key.{IsKey, key_bytes}
use Rattle.archive_core.specs.Valid.{key_of}
use Rattle.archive_core.specs.Record.{borrowed_bytes, operation_borrowed, record_bytes, IsOperation}
use Rattle.archive_core.specs.Find.{row_of}
use Rattle.archive_core.specs.Summary.{entry}
use Rattle.archive_core.specs.declared.find.FindRow.{FindRow}
use Rattle.archive_core.specs.declared.find.FindState.TheVariants.{Image, Dsym}
use Rattle.archive_core.specs.declared.operations.Operation.{Operation}
use Rattle.archive_core.specs.declared.operations.Operation.TheVariants.{Admit, Retire}
use Rattle.archive_core.specs.declared.operations.Record.{Record}
use Rattle.archive_core.proofs.Entries.{admission_entry, retirement_entry, slice_of}
use Rattle.archive_core.proofs.Heads.{laid_last}
use Rattle.index_format.specs.declared.entry.IndexEntry.{IndexEntry}
use Rattle.index_format.proofs.Placed.{offset_laid, length_laid}
use Rattle.index_format.specs.Entry.{IsRowOf, kind_byte, placed_entry, placed_bytes, tag_byte, dsym_byte, length_in, offset_in}

-- ---- laid in place

pub laid_place : (part off len : List ℕ) (k : ℕ) → length part ≡ 17 → length off ≡ 8 → length len ≡ 8
    → put_mid 9 (length (put_mid 1 8 (slice_set part 0 k) off) - 9) (put_mid 1 8 (slice_set part 0 k) off) len ≡ k ∷ (off ++ len)
laid_place [] off len k e p q = absurd (omega arith)
laid_place (x ∷ xs) off len k e p q =
    let n = length (k ∷ (off ++ drop 8 xs)) - 9 in
    laid_last (k ∷ off) (drop 8 xs) len 9 n (omega (arith, p)) (omega (arith, p, length-append off (drop 8 xs), length-drop 8 xs))

-- ---- the entry of a record's row

pub row_of_borrowed : (borrowed : Record) (row : FindRow) → row ≡ row_of (operation_borrowed borrowed)
    → IsOperation (operation_borrowed borrowed) → IsKey row.key → IsRowOf (borrowed_bytes borrowed) row
row_of_borrowed borrowed row is valid key = record {
  operation = operation_borrowed borrowed;
  is_operation = valid;
  is_key = subst IsKey (ap (λ (r : FindRow). r.key) is) key;
  bytes_are = refl;
  row_is = is;
}

tag_of_slice : (b : Bool) → tag_byte (cond b Dsym Image) ≡ 2
tag_of_slice b = grind arith

kind_of_slice : (b : Bool) → dsym_byte (cond b Dsym Image) ≡ cond b 1 0
kind_of_slice b = grind arith

row_entry_of : (a : Operation) → IsOperation a → tag_byte (row_of a).state ∷ (key_bytes (row_of a).key ++ (row_of a).digest.0) ≡ entry (record_bytes a)
row_entry_of (Admit slice) valid = ap (λ (n : ℕ). n ∷ (key_bytes (key_of slice) ++ sha256 slice))
    (tag_of_slice (is_dsym_image slice)) ∙ sym (admission_entry slice valid)
row_entry_of (Retire key digest) is = sym (retirement_entry key digest.0)

row_kind_of : (a : Operation) → IsOperation a → dsym_byte (row_of a).state ≡ kind_byte (record_bytes a)
row_kind_of (Admit slice) valid = kind_of_slice (is_dsym_image slice) ∙ ap (λ (s : List ℕ). cond (is_dsym_image s) 1 0) (sym (slice_of slice valid))
row_kind_of (Retire key digest) is = refl

-- the entry that is made of a record is its entry
pub made_entry : (bytes : List ℕ) (row : FindRow) (offset n : ℕ) (claim : Claim) → IsRowOf bytes row → n ≡ length bytes
    → placed_bytes (record { row = row; offset = offset; length = n; claim = claim }) ≡ placed_entry offset bytes
unfolding placed_bytes placed_entry
made_entry bytes row offset n claim is long =
    let entry_is : tag_byte row.state ∷ (key_bytes row.key ++ row.digest.0)
    ≡ entry bytes = ap (λ (r : FindRow). tag_byte r.state ∷ (key_bytes r.key ++ r.digest.0)) is.row_is
    ∙ row_entry_of is.operation is.is_operation ∙ ap entry is.bytes_are in
    let kind_is : dsym_byte row.state ≡ kind_byte bytes = ap (λ (r : FindRow). dsym_byte r.state) is.row_is
    ∙ row_kind_of is.operation is.is_operation ∙ ap kind_byte is.bytes_are in
    λ i. entry_is i ++ (kind_is i ∷ (to_be_bytes w64 offset ++ to_be_bytes w64 (long i)))

-- ---- the entry that bytes are

parts_of : (bytes : List ℕ) → length bytes ≡ 74 → (get_or bytes 0 0
    ∷ (take 24 (drop 1 bytes) ++ take 32 (drop 25 bytes)))
    ++ (get_or bytes 57 0 ∷ (take 8 (drop 58 bytes) ++ take 8 (drop 66 bytes))) ≡ bytes
parts_of [] long = absurd (omega arith)
parts_of (x ∷ xs) long =
    let last : take 8 (drop 65 xs) ≡ drop 65 xs = take_all 8 (drop 65 xs) (omega (arith, length-drop 65 xs)) in
    let place : take 8 (drop 57 xs) ++ take 8 (drop 65 xs)
    ≡ drop 57 xs = ap (λ (t : List ℕ). take 8 (drop 57 xs) ++ t) (last ∙ sym (drop-drop 8 57 xs))
    ∙ take-append-drop 8 (drop 57 xs) in
    let kind : get_or xs 56 0 ∷ drop 57 xs ≡ drop 56 xs = sym (drop-cons xs 56 0 (omega arith)) in
    let tail : get_or xs 56 0 ∷ (take 8 (drop 57 xs) ++ take 8 (drop 65 xs)) ≡ drop 56 xs = ap (λ (t : List ℕ). get_or xs 56 0 ∷ t) place ∙ kind in
    let digest : take 32 (drop 24 xs) ++ drop 56 xs ≡ drop 24 xs =
    ap (λ (t : List ℕ). take 32 (drop 24 xs) ++ t) (sym (drop-drop 32 24 xs)) ∙ take-append-drop 32 (drop 24 xs) in
    ap (λ (t : List ℕ). x ∷ t)
    (ap (λ (t : List ℕ). (take 24 xs ++ take 32 (drop 24 xs)) ++ t) tail
    ∙ append_assoc (take 24 xs) (take 32 (drop 24 xs)) (drop 56 xs) ∙ ap (λ (t : List ℕ). take 24 xs ++ t) digest
    ∙ take-append-drop 24 xs)

pub read_entry : (bytes : List ℕ) (e : IndexEntry) → length bytes ≡ 74 → tag_byte e.row.state ≡ get_or bytes 0 0
    → key_bytes e.row.key ≡ take 24 (drop 1 bytes) → e.row.digest.0 ≡ take 32 (drop 25 bytes) → dsym_byte e.row.state
    ≡ get_or bytes 57 0
    → to_be_bytes w64 e.offset ≡ take 8 (drop 58 bytes) → to_be_bytes w64 e.length ≡ take 8 (drop 66 bytes) → placed_bytes e ≡ bytes
unfolding placed_bytes
read_entry bytes e long tag key digest kind offset len = (λ i. (tag i ∷ (key i ++ digest i)) ++ (kind i ∷ (offset i ++ len i))) ∙ parts_of bytes long

-- ---- the length in an entry

front_long : (e : IndexEntry) → length (placed_bytes e) ≡ 74 → length (tag_byte e.row.state ∷ (key_bytes e.row.key ++ e.row.digest.0)) ≡ 57
unfolding placed_bytes
front_long e long =
    let front : List ℕ = tag_byte e.row.state ∷ (key_bytes e.row.key ++ e.row.digest.0) in
    let tail : List ℕ = dsym_byte e.row.state ∷ (to_be_bytes w64 e.offset ++ to_be_bytes w64 e.length) in
    omega (arith, long, length-append front tail, length-append (to_be_bytes w64 e.offset) (to_be_bytes w64 e.length))

pub length_of_bytes : (e : IndexEntry) → length (placed_bytes e) ≡ 74 → e.length < 2 ^ 64 → length_in (placed_bytes e) ≡ e.length
unfolding placed_bytes
length_of_bytes e long fits = length_laid (tag_byte e.row.state ∷ (key_bytes e.row.key ++ e.row.digest.0))
    (dsym_byte e.row.state) e.offset e.length (front_long e long) fits

-- and the offset
pub offset_of_bytes : (e : IndexEntry) → length (placed_bytes e) ≡ 74 → e.offset < 2 ^ 64 → offset_in (placed_bytes e) ≡ e.offset
unfolding placed_bytes
offset_of_bytes e long fits = offset_laid (tag_byte e.row.state ∷ (key_bytes e.row.key ++ e.row.digest.0))
    (dsym_byte e.row.state) e.offset e.length (front_long e long) fits

-- what holds of each entry's bytes
pub each_of : (P : List ℕ → Type 0) (entries : List IndexEntry) (i : ℕ) (e : IndexEntry)
    → AllByRecursion P (map placed_bytes entries) → i < length entries → e ≡ get_or entries i e → P (placed_bytes e)
each_of P [] i e all lt is = absurd (omega arith)
each_of P (x ∷ xs) zero e all lt is = subst (λ (y : IndexEntry). P (placed_bytes y)) (sym is) all.0
each_of P (x ∷ xs) (suc i) e all lt is = each_of P xs i e all.1 (omega arith) is
