-- Entries as values and as bytes.
use Rattle.std.proofs.Common.{◌≡◌, ℕ, ◌+◌, ◌-◌, ◌<◌, ◌^◌, true, cond, ◌||◌, ◌&&◌, eqb, nat_le, List, ◌++◌, length, take}
use Rattle.std.proofs.Common.{drop, get_or, sym, ap, ◌∙◌, arith, length-append, length-drop}
use Rattle.std.specs.Int.{w64, to_be_bytes, from_be_bytes}
use Rattle.std.proofs.Math.ListN.{get_or-append}
use Rattle.std.proofs.Math.Seq.{take-append_seam, drop-append_seam}
use Rattle.std.proofs.lemmas.List.{drop-append-le, drop-drop, drop-take, drop_at, get_or-take, length-take-le, take-append-drop, take-append-le, take-take}
use Rattle.std.proofs.lemmas.Nat.{from_be_bytes-to_be_bytes_8}
use borrow.Rule.Slice.PartMut.{put_mid}
use Rattle.table_checked_pages.specs.Pages.{Claim}
use Rattle.table_checked_pages.specs.Views.{claim_view}
use Rattle.archive_core.proofs.Heads.{laid_last}
use Rattle.archive_records.specs.Layout.{largest_slice}
use Rattle.index_format.specs.Entry.{IsPlacedEntry, has_kind, has_length, has_tag, length_in, offset_in, placed_bytes}
use Rattle.index_format.specs.Entry.{HasItsFields, claim_bytes, claim_in, entry_bytes}
use Rattle.index_format.specs.declared.entry.IndexEntry.{IndexEntry}

-- ---- laid in place

-- eight bytes and the rest
pub laid_two : (part first second : List ℕ) (n : ℕ) → length part ≡ 8 + n → length first ≡ 8 → length second ≡ n
    → put_mid 8 (length (put_mid 0 8 part first) - 8) (put_mid 0 8 part first) second ≡ first ++ second
laid_two part first second n long p q =
    laid_last first (drop 8 part) second 8 (length (first ++ drop 8 part) - 8) p (omega (arith, long, p, length-append first (drop 8 part), length-drop 8 part))

-- ---- the entry that bytes are

-- numbers in the first 74 bytes
pub front_number : (at : ℕ) (bytes : List ℕ) → at + 8 < 75 → take 8 (drop at (take 74 bytes)) ≡ take 8 (drop at bytes)
front_number at bytes within =
    let rest : ℕ = 74 - at in
    let whole : 74 ≡ at + rest = omega (arith, within) in
    ap (λ (n : ℕ). take 8 (drop at (take n bytes))) whole ∙ ap (take 8) (drop-take at rest bytes) ∙ take-take 8 rest (drop at bytes) (omega (arith, within))

pub tag_front : (e : List ℕ) → has_tag e ≡ true → has_tag (take 74 e) ≡ true
tag_front e h = ap (λ (n : ℕ). eqb n 1 || eqb n 2) (get_or-take 74 e 0 0 (omega arith)) ∙ h

pub kind_front : (e : List ℕ) → has_kind e ≡ true → has_kind (take 74 e) ≡ true
kind_front e h =
    let tag : get_or (take 74 e) 0 0 ≡ get_or e 0 0 = get_or-take 74 e 0 0 (omega arith) in
    let kind : get_or (take 74 e) 57 0 ≡ get_or e 57 0 = get_or-take 74 e 57 0 (omega arith) in
    (λ i. eqb (kind i) 0 || (eqb (kind i) 1 && eqb (tag i) 2)) ∙ h

pub length_front : (e : List ℕ) → has_length e ≡ true → has_length (take 74 e) ≡ true
length_front e h =
    let tag : get_or (take 74 e) 0 0 ≡ get_or e 0 0 = get_or-take 74 e 0 0 (omega arith) in
    let long : length_in (take 74 e) ≡ length_in e = ap (from_be_bytes w64) (front_number 66 e (omega arith)) in
    (λ i. cond (eqb (tag i) 2) (nat_le 33 (long i) && nat_le (long i) (33 + largest_slice)) (eqb (long i) 57)) ∙ h

-- the first 74 bytes of an entry that passes its checks
pub placed_front : (e : List ℕ) → length e ≡ 122 → has_tag e ≡ true → has_kind e ≡ true → has_length e ≡ true → IsPlacedEntry (take 74 e)
placed_front e long tag kind length_is = record {
  long = length-take-le 74 e (omega (arith, long));
  tag = tag_front e tag;
  kind = kind_front e kind;
  length_is = length_front e length_is;
}

pub claim_parts : (e : List ℕ) (c : Claim) → to_be_bytes w64 c.offset ≡ take 8 (drop 74 e) → to_be_bytes w64 c.size
    ≡ take 8 (drop 82 e) → c.root ≡ drop 90 e → claim_bytes c ≡ drop 74 e
unfolding claim_bytes
claim_parts e c offset size root =
    (λ i. offset i ++ (size i ++ root i))
    ∙ ap (λ (t : List ℕ). take 8 (drop 74 e) ++ t) (ap (λ (t : List ℕ). take 8 (drop 82 e) ++ t)
    (sym (drop-drop 8 82 e)) ∙ take-append-drop 8 (drop 82 e) ∙ sym (drop-drop 8 74 e))
    ∙ take-append-drop 8 (drop 74 e)

pub entry_of_parts : (bytes : List ℕ) (e : IndexEntry) → placed_bytes e ≡ take 74 bytes
    → claim_bytes (claim_view e.claim) ≡ drop 74 bytes → entry_bytes e ≡ bytes
unfolding entry_bytes
entry_of_parts bytes e placed claim = (λ i. placed i ++ claim i) ∙ take-append-drop 74 bytes

-- ---- what the bytes of an entry say

-- 74 bytes, and a claim
module _ (beginning : List ℕ) (c : Claim) (long : length beginning ≡ 74) where
  claim_behind : drop 74 (beginning ++ claim_bytes c) ≡ claim_bytes c
  claim_behind = drop_at beginning (claim_bytes c) 74 long

  size_behind : drop 82 (beginning ++ claim_bytes c) ≡ to_be_bytes w64 c.size ++ c.root
  unfolding claim_bytes
  size_behind = sym (drop-drop 8 74 (beginning ++ claim_bytes c)) ∙ ap (drop 8) claim_behind
      ∙ drop-append_seam (to_be_bytes w64 c.offset) (to_be_bytes w64 c.size ++ c.root)

  pub offset_read : c.offset < 2 ^ 64 → (claim_in (beginning ++ claim_bytes c)).offset ≡ c.offset
  unfolding claim_bytes
  offset_read fits =
      ap (from_be_bytes w64) (ap (take 8) claim_behind
      ∙ take-append_seam (to_be_bytes w64 c.offset) (to_be_bytes w64 c.size ++ c.root))
      ∙ from_be_bytes-to_be_bytes_8 c.offset fits

  pub size_read : c.size < 2 ^ 64 → (claim_in (beginning ++ claim_bytes c)).size ≡ c.size
  size_read fits =
      ap (from_be_bytes w64) (ap (take 8) size_behind ∙ take-append_seam (to_be_bytes w64 c.size) c.root) ∙ from_be_bytes-to_be_bytes_8 c.size fits

  pub root_read : (claim_in (beginning ++ claim_bytes c)).root ≡ c.root
  root_read = sym (drop-drop 8 82 (beginning ++ claim_bytes c)) ∙ ap (drop 8) size_behind ∙ drop-append_seam (to_be_bytes w64 c.size) c.root

  pub claim_read : c.offset < 2 ^ 64 → c.size < 2 ^ 64 → claim_in (beginning ++ claim_bytes c) ≡ c
  claim_read offset size = λ i. record { offset = offset_read offset i; size = size_read size i; root = root_read i }

length-claim : (c : Claim) → length (claim_bytes c) ≡ 16 + length c.root
unfolding claim_bytes
length-claim c = omega (arith, length-append (to_be_bytes w64 c.offset) (to_be_bytes w64 c.size ++ c.root), length-append (to_be_bytes w64 c.size) c.root)

-- 74 bytes with a claim after them say what they say alone
module _ (beginning : List ℕ) (c : Claim) (long : length beginning ≡ 74) where
  pub number_kept : (at : ℕ) → at + 8 < 75 → take 8 (drop at (beginning ++ claim_bytes c)) ≡ take 8 (drop at beginning)
  number_kept at within =
      ap (take 8) (drop-append-le at beginning (claim_bytes c) (omega (arith, long, within)))
      ∙ take-append-le 8 (drop at beginning) (claim_bytes c) (omega (arith, long, within, length-drop at beginning))

  pub byte_kept : (i : ℕ) → i < 74 → get_or (beginning ++ claim_bytes c) i 0 ≡ get_or beginning i 0
  byte_kept i lt = get_or-append beginning (claim_bytes c) 0 i (omega (arith, long, lt))

pub long_with : (beginning : List ℕ) (c : Claim) → length beginning ≡ 74 → length c.root ≡ 32 → length (beginning ++ claim_bytes c) ≡ 122
long_with beginning c long root = omega (arith, long, root, length-append beginning (claim_bytes c), length-claim c)

pub fields_of : (bytes : List ℕ) (e : IndexEntry) → length bytes ≡ 122 → entry_bytes e ≡ bytes
    → offset_in (take 74 bytes) ≡ e.offset → length_in (take 74 bytes) ≡ e.length → claim_view e.claim ≡ claim_in bytes
    → IsPlacedEntry (placed_bytes e) → HasItsFields e
fields_of bytes e long same offset len claim placed = record {
  long = ap length same ∙ long;
  offset_is = ap offset_in same ∙ ap (from_be_bytes w64) (sym (front_number 58 bytes (omega arith))) ∙ offset;
  length_is = ap length_in same ∙ ap (from_be_bytes w64) (sym (front_number 66 bytes (omega arith))) ∙ len;
  claim_is = ap claim_in same ∙ sym claim;
  placed = placed;
}
