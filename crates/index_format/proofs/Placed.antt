-- The entries of records that stand one after another.
use Rattle.std.proofs.Common.{◌≡◌, ℕ, ◌+◌, ◌<◌, ◌^◌, Bool, true, cond, ◌&&◌, ◌||◌, eqb, List, ◌∷◌, ◌++◌, length, take}
use Rattle.std.proofs.Common.{drop, get_or, sym, ap, ◌∙◌, inl, inr, arith, length-append, nat_le}
use Rattle.std.specs.Int.{w64, to_be_bytes, from_be_bytes}
use Rattle.std.proofs.Math.ListN.{get_or-append}
use Rattle.std.proofs.Math.Seq.{take-append_seam, drop-append_seam, drop-append-add}
use Rattle.std.proofs.lemmas.List.{take_all, take_at, get_or_at, drop-drop}
use Rattle.std.proofs.lemmas.Bool.{le-leb, and_from}
use Rattle.std.proofs.lemmas.Bool.Decides.{nat_tests}
use Rattle.std.proofs.lemmas.Nat.{from_be_bytes-to_be_bytes_8}
use Rattle.macho_image.specs.Contents.{is_dsym_image}
use Rattle.archive_core.specs.Record.{IsRecord, Admits, Retires}
use Rattle.archive_core.specs.Content.{is_admission}
use Rattle.archive_core.specs.Summary.{entry}
use Rattle.archive_core.proofs.Records.{length-admission_record, length-retirement_record}
use Rattle.archive_core.proofs.Entries.{admission_entry, retirement_entry, length-entry}
use Rattle.archive_records.specs.Layout.{largest_slice}
use Rattle.archive_records.proofs.SliceFacts.{short_slice}
use Rattle.index_format.specs.Entry.{kind_byte, placed_entry, length_in, offset_in, IsPlacedEntry}

-- ---- the parts of an entry

-- a byte and two numbers after a front of 57 bytes
module _ (front : List ℕ) (kind offset len : ℕ) (long : length front ≡ 57) where
  abbrev laid : List ℕ
  laid = front ++ (kind ∷ (to_be_bytes w64 offset ++ to_be_bytes w64 len))

  behind : drop 58 laid ≡ to_be_bytes w64 offset ++ to_be_bytes w64 len
  behind = ap (λ (n : ℕ). drop (n + 1) laid) (sym long) ∙ drop-append-add front (kind ∷ (to_be_bytes w64 offset ++ to_be_bytes w64 len)) 1

  pub offset_laid : offset < 2 ^ 64 → offset_in laid ≡ offset
  offset_laid fits = ap (from_be_bytes w64) (ap (take 8) behind
      ∙ take-append_seam (to_be_bytes w64 offset) (to_be_bytes w64 len)) ∙ from_be_bytes-to_be_bytes_8 offset fits

  pub length_laid : len < 2 ^ 64 → length_in laid ≡ len
  length_laid fits =
      ap (from_be_bytes w64)
      (ap (take 8) (sym (drop-drop 8 58 laid) ∙ ap (drop 8) behind ∙ drop-append_seam (to_be_bytes w64 offset) (to_be_bytes w64 len))
      ∙ take_all 8 (to_be_bytes w64 len) (omega arith))
      ∙ from_be_bytes-to_be_bytes_8 len fits

module _ (offset : ℕ) (r : List ℕ) (is : IsRecord r) where
  pub entry_front : take 57 (placed_entry offset r) ≡ entry r
  unfolding placed_entry
  entry_front = take_at (entry r) (kind_byte r ∷ (to_be_bytes w64 offset ++ to_be_bytes w64 (length r))) 57 (length-entry r is)

  pub entry_long : length (placed_entry offset r) ≡ 74
  unfolding placed_entry
  entry_long = omega (
    arith,
    length-entry r is,
    length-append (entry r)
        (kind_byte r ∷ (to_be_bytes w64 offset ++ to_be_bytes w64 (length r))),
    length-append (to_be_bytes w64 offset) (to_be_bytes w64 (length r)),
  )

  first_of : get_or (placed_entry offset r) 0 0 ≡ get_or (entry r) 0 0
  unfolding placed_entry
  first_of = get_or-append (entry r) (kind_byte r ∷ (to_be_bytes w64 offset ++ to_be_bytes w64 (length r))) 0 0 (omega (arith, length-entry r is))

  pub kind_of : get_or (placed_entry offset r) 57 0 ≡ kind_byte r
  unfolding placed_entry
  kind_of = get_or_at (entry r) (kind_byte r) (to_be_bytes w64 offset ++ to_be_bytes w64 (length r)) 0 57 (length-entry r is)

  pub offset_is : offset < 2 ^ 64 → offset_in (placed_entry offset r) ≡ offset
  unfolding placed_entry
  offset_is fits = offset_laid (entry r) (kind_byte r) offset (length r) (length-entry r is) fits

pub record_short : (r : List ℕ) → IsRecord r → length r < 33 + 2 ^ 32
record_short r (inl a) = omega (arith, ap length a.is, length-admission_record a.slice a.valid, short_slice a.slice a.valid)
record_short r (inr b) = omega (arith, ap length b.is, length-retirement_record b.key b.digest b.is_key b.long)

pub length_is : (offset : ℕ) (r : List ℕ) → IsRecord r → length_in (placed_entry offset r) ≡ length r
unfolding placed_entry
length_is offset r is = length_laid (entry r) (kind_byte r) offset (length r) (length-entry r is) (omega (arith, record_short r is))

-- the tag of an entry is that of its record
pub tag_is : (offset : ℕ) (r : List ℕ) → IsRecord r → get_or (placed_entry offset r) 0 0 ≡ get_or r 0 0
tag_is offset r (inl a) = first_of offset r (inl a) ∙ ap (λ (x : List ℕ). get_or (entry x) 0 0) a.is
    ∙ ap (λ (x : List ℕ). get_or x 0 0) (admission_entry a.slice a.valid) ∙ sym (ap (λ (x : List ℕ). get_or x 0 0) a.is)
tag_is offset r (inr b) = first_of offset r (inr b) ∙ ap (λ (x : List ℕ). get_or (entry x) 0 0) b.is
    ∙ ap (λ (x : List ℕ). get_or x 0 0) (retirement_entry b.key b.digest) ∙ sym (ap (λ (x : List ℕ). get_or x 0 0) b.is)

-- ---- the entry of a record is one of an index

kind_admitted : (b : Bool) (k t : ℕ) → k ≡ cond b 1 0 → t ≡ 2 → (eqb k 0 || (eqb k 1 && eqb t 2)) ≡ true
kind_admitted b k t p q = grind (arith, nat_tests)

module _ (offset : ℕ) (r : List ℕ) where
  admitted_entry : Admits r → IsPlacedEntry (placed_entry offset r)
  admitted_entry a =
      let is : IsRecord r = inl a in
      let tag : get_or (placed_entry offset r) 0 0 ≡ 2 = tag_is offset r is ∙ ap (λ (x : List ℕ). get_or x 0 0) a.is in
      let kind : get_or (placed_entry offset r) 57 0 ≡ cond (is_dsym_image (drop 33 r)) 1 0 = kind_of offset r is
      ∙ ap (λ (x : List ℕ). cond (is_admission x && is_dsym_image (drop 33 r)) 1 0) a.is in
      record {
        long = entry_long offset r is;
        tag = ap (λ (n : ℕ). eqb n 1 || eqb n 2) tag;
        kind = kind_admitted (is_dsym_image (drop 33 r)) (get_or (placed_entry offset r) 57 0) (get_or (placed_entry offset r) 0 0) kind tag;
        length_is =
            (λ i. cond (eqb (tag i) 2) (nat_le 33 (length_is offset r is i)
            && nat_le (length_is offset r is i) (33 + largest_slice)) (eqb (length_is offset r is i) 57))
            ∙ and_from (nat_le 33 (length r)) (nat_le (length r) (33 + largest_slice))
            (le-leb 33 (length r) (omega (arith, ap length a.is, length-admission_record a.slice a.valid)))
            (le-leb (length r) (33 + largest_slice) (omega (arith, record_short r is)));
      }

  retired_entry : Retires r → IsPlacedEntry (placed_entry offset r)
  retired_entry b =
      let is : IsRecord r = inr b in
      let tag : get_or (placed_entry offset r) 0 0 ≡ 1 = tag_is offset r is ∙ ap (λ (x : List ℕ). get_or x 0 0) b.is in
      let kind : get_or (placed_entry offset r) 57 0 ≡ 0 = kind_of offset r is
      ∙ ap (λ (x : List ℕ). cond (is_admission x && is_dsym_image (drop 33 r)) 1 0) b.is in
      record {
        long = entry_long offset r is;
        tag = ap (λ (n : ℕ). eqb n 1 || eqb n 2) tag;
        kind = (λ i. eqb (kind i) 0 || (eqb (get_or (placed_entry offset r) 57 0) 1 && eqb (get_or (placed_entry offset r) 0 0) 2));
        length_is =
            (λ i. cond (eqb (tag i) 2) (nat_le 33 (length_in (placed_entry offset r))
            && nat_le (length_in (placed_entry offset r)) (33 + largest_slice)) (eqb (length_is offset r is i) 57))
            ∙ ap (λ (n : ℕ). eqb n 57) (ap length b.is ∙ length-retirement_record b.key b.digest b.is_key b.long);
      }

pub is_placed : (offset : ℕ) (r : List ℕ) → IsRecord r → IsPlacedEntry (placed_entry offset r)
is_placed offset r (inl a) = admitted_entry offset r a
is_placed offset r (inr b) = retired_entry offset r b
