-- A record as the bytes of a retirement or of an admission.
use Rattle.std.proofs.Common.{lit≤, ◌≡◌, ℕ, suc, ◌+◌, ◌<◌, ◌≤◌, false, List, [], ◌∷◌, ◌++◌, ◌^◌, length, get_or, take}
use Rattle.std.proofs.Common.{drop, Option, Some, None, Ok, refl, sym, ap, ◌∙◌, subst, arith, inl, inr, ◌⊎◌}
use Rattle.std.proofs.Common.{length-append, length-drop}
use Rattle.std.proofs.lemmas.Bool.Decides.{nat_tests}
use Rattle.std.proofs.lemmas.Bool.{cases_lt}
use Rattle.std.proofs.lemmas.List.{take_all, take_at, drop_at, length-take, get_or-take, get_or-drop, get_or_past, take-append-drop, drop-drop}
use Rattle.std.proofs.lemmas.Nat.{be_bytes_4, be_bytes_8, from_be_bytes-to_be_bytes_8}
use Rattle.std.specs.Int.{w32, w64, from_be_bytes, to_be_bytes}
use Rattle.archive_core.specs.Key.{IsKey, key_bytes}
use Rattle.archive_core.specs.Valid.{IsValid, key_of}
use Rattle.archive_core.specs.Record.{admission, admission_record, Admits, Retires, IsRecord}
use Rattle.archive_core.specs.declared.keys.SliceKey.{SliceKey}
use Rattle.archive_core.specs.declared.slices.SliceFacts.{SliceFacts}
use Rattle.archive_core.proofs.Compare.{length_key_bytes}
use Rattle.archive_core.proofs.Records.{length-key_of}
use Rattle.archive_records.specs.declared.fault.RecordFaultKind.{RecordFaultKind}
use Rattle.archive_records.specs.declared.fault.RecordFaultKind.TheVariants.{BadSlice, KeyMismatch}
use Rattle.archive_records.specs.Layout.{head_length, slice_length, largest_slice, admission_body, body_length, framed, framed_after}
use Rattle.archive_records.specs.Kind.{IsItem, kind_of, admission_length}
use Rattle.archive_records.specs.Entry.{IsEntry}
use Rattle.archive_records.specs.Fault.{is_end, RefusesSlice, Refuses}
use Rattle.archive_records.specs.Reader.{IsFoundIn}
use Rattle.archive_records.proofs.Framed.{framed-whole}
use Rattle.archive_core.proofs.Heads.{read_key}
use Rattle.archive_records.proofs.Holds.{body_one, body_two, whole-retirement}
use Rattle.archive_records.proofs.SliceFacts.{short_slice, no_slice_fault}
use Rattle.archive_records.specs.declared.format.Format.{Format}
use Rattle.archive_records.specs.declared.format.Format.TheVariants.{Archive, OldArchive, Operations, Summary}

abbrev pub IsBytes : List ℕ → Type 0
IsBytes bytes = (i : ℕ) → get_or bytes i 0 < 256

pub IsBytes-take : (n : ℕ) (bytes : List ℕ) → IsBytes bytes → IsBytes (take n bytes)
IsBytes-take n bytes h i =
    elim (cases_lt i n) [
      | inl lt ↦ rw (get_or-take n bytes i 0 lt) (h i)
      | inr le ↦ rw (get_or_past (take n bytes) i 0 (omega (arith, length-take n bytes))) (omega arith)
    ]

pub IsBytes-drop : (n : ℕ) (bytes : List ℕ) → IsBytes bytes → IsBytes (drop n bytes)
IsBytes-drop n bytes h i = rw (get_or-drop n bytes i 0) (h (n + i))

-- an admission's record, in its parts
pub record HasParts (r slice : List ℕ) : Type 0 where
  pub tag : get_or r 0 0 ≡ 2
  pub key : take 24 (drop 1 r) ≡ key_bytes (key_of slice)
  pub number : slice_length r ≡ length slice
  pub slice_is : drop 33 r ≡ slice
  pub long : length r ≡ 33 + length slice

parts_of : (key number slice : List ℕ) → length key ≡ 24 → length number ≡ 8
    → (take 24 (key ++ (number ++ slice)) ≡ key) × (take 8 (drop 24 (key ++ (number ++ slice))) ≡ number)
    × (drop 32 (key ++ (number ++ slice)) ≡ slice) × (length (key ++ (number ++ slice)) ≡ 32 + length slice)
parts_of key number slice k n =
    let d : drop 24 (key ++ (number ++ slice)) ≡ number ++ slice = drop_at key (number ++ slice) 24 k in (
      take_at key (number ++ slice) 24 k,
      ap (take 8) d ∙ take_at number slice 8 n,
      sym (drop-drop 8 24 (key ++ (number ++ slice))) ∙ ap (drop 8) d ∙ drop_at number slice 8 n,
      omega (arith, length-append key (number ++ slice), length-append number slice),
    )

pub parts-admission : (slice : List ℕ) → IsValid slice → HasParts (admission_record slice) slice
unfolding admission slice_length
parts-admission slice valid =
    let p = parts_of (key_bytes (key_of slice)) (to_be_bytes w64 (length slice)) slice (length-key_of slice valid) refl in
    let short = short_slice slice valid in
    record {
      tag = refl;
      key = p.0;
      number = ap (from_be_bytes w64) p.1 ∙ from_be_bytes-to_be_bytes_8 (length slice) (omega arith);
      slice_is = p.2;
      long = omega (arith, p.3);
    }

pub parts-of : (r : List ℕ) (a : Admits r) → HasParts r a.slice
parts-of r a = subst (λ (t : List ℕ). HasParts t a.slice) (sym a.is) (parts-admission a.slice a.valid)

pub record RetirementParts (r : List ℕ) : Type 0 where
  pub tag : get_or r 0 0 ≡ 1
  pub long : length r ≡ 57

pub parts-retires : (r : List ℕ) → Retires r → RetirementParts r
parts-retires r t = record {
  tag = ap (λ (x : List ℕ). get_or x 0 0) t.is;
  long = ap length t.is ∙ omega (arith, length-append (key_bytes t.key) t.digest, length_key_bytes t.key t.is_key.uuid, t.long);
}

-- and no end record
record-item : (r : List ℕ) → IsRecord r → is_end r ≡ false
unfolding is_end
record-item r (inl a) = rw (parts-of r a).tag refl
record-item r (inr t) = rw (parts-retires r t).tag refl

-- its slice is not refused
record-slice : (r : List ℕ) (kind : RecordFaultKind) → IsRecord r → RefusesSlice r kind → ⊥
record-slice r (BadSlice fault) (inl a) f = no_slice_fault a.slice fault a.valid (rw (parts-of r a).slice_is at f.1)
record-slice r (BadSlice fault) (inr t) f = omega (arith, (parts-retires r t).tag, f.0)
record-slice r KeyMismatch (inl a) f = let p = parts-of r a in f.2 (p.key ∙ ap (λ (s : List ℕ). key_bytes (key_of s)) (sym p.slice_is))
record-slice r KeyMismatch (inr t) f = omega (arith, (parts-retires r t).tag, f.0)
record-slice r _ i f = f

-- whole bytes with an admission's tag, a slice and its key are an admission's record
pub admits : (bytes : List ℕ) → (get_or bytes 0 0 ≡ 2) × (slice_length bytes + 33 ≡ length bytes)
    → IsValid (drop 33 bytes) → take 24 (drop 1 bytes) ≡ key_bytes (key_of (drop 33 bytes)) → IsBytes bytes
    → Admits bytes
unfolding admission slice_length
admits [] p valid key fits = absurd (omega (arith, p.0))
admits (b ∷ bs) p valid key fits =
    let long = p.1 in
    let slice : List ℕ = drop 32 bs in
    let tail : drop 8 (drop 24 bs) ≡ slice = drop-drop 8 24 bs in
    let n : length slice ≡ from_be_bytes w64 (take 8 (drop 24 bs)) = omega (arith, length-drop 32 bs, long) in
    let number : to_be_bytes w64 (length slice) ≡ take 8 (drop 24 bs) =
    be_bytes_8 (take 8 (drop 24 bs)) (length slice) (omega (arith, length-take 8 (drop 24 bs), length-drop 24 bs, long))
    (IsBytes-take 8 (drop 24 bs) (IsBytes-drop 24 bs (λ i. fits (suc i)))) n in
    let rest : to_be_bytes w64 (length slice) ++ slice ≡ drop 24 bs = ap (λ (t : List ℕ). t ++ slice) number
    ∙ ap (λ (t : List ℕ). take 8 (drop 24 bs) ++ t) (sym tail) ∙ take-append-drop 8 (drop 24 bs) in
    record {
      slice = slice;
      valid = valid;
      is = cc (
        p.0,
        sym (ap (λ (t : List ℕ). t ++ (to_be_bytes w64 (length slice) ++ slice)) (sym key)
            ∙ ap (λ (t : List ℕ). take 24 bs ++ t) rest ∙ take-append-drop 24 bs),
      );
    }

-- where something was found, or nothing was to be found, it is a record
pub item-found : (file : Format) (item : List ℕ) (found : Option SliceFacts) → IsFoundIn (kind_of file) item found → IsItem file item
item-found Summary item found is = is.0
item-found _ item None is = inr is
item-found _ item (Some facts) is = inl is.0

pub long-retirement : (bytes : List ℕ) → Retires bytes → length bytes ≡ 57
long-retirement bytes t = (parts-retires bytes t).long

pub tag-retirement : (bytes : List ℕ) → Retires bytes → get_or bytes 0 0 ≡ 1
tag-retirement bytes t = (parts-retires bytes t).tag

pub long-admission : (bytes : List ℕ) → Admits bytes → 33 ≤ length bytes
long-admission bytes a = omega (arith, (parts-of bytes a).long)

-- the tag, the key and the digest make the bytes again
pub tagged_is : (tag : ℕ) (bytes : List ℕ) (key : SliceKey) (digest : List ℕ) → length bytes ≡ 57 → get_or bytes 0 0
    ≡ tag → key_bytes key ≡ take 24 (drop 1 bytes) → digest ≡ take 32 (drop 25 bytes) → tag ∷ (key_bytes key ++ digest)
    ≡ bytes
tagged_is tag [] key digest long is k d = absurd (omega arith)
tagged_is tag (b ∷ bs) key digest long is k d =
    cc (
      is,
      ap (λ (t : List ℕ). t ++ digest) k ∙ ap (λ (t : List ℕ). take 24 bs ++ t)
          (d ∙ take_all 32 (drop 24 bs) (omega (arith, length-drop 24 bs))) ∙ take-append-drop 24 bs,
    )

-- an entry without a retirement's tag has an admission's
pub other_tag : (bytes : List ℕ) → IsEntry bytes → (get_or bytes 0 0 ≡ 1 → ⊥) → get_or bytes 0 0 ≡ 2
other_tag bytes is other = grind arith

-- the slice of an admission's record, and its record again
pub admitted_valid : (bytes : List ℕ) → Admits bytes → IsValid (drop 33 bytes)
admitted_valid bytes a = subst IsValid (sym (parts-of bytes a).slice_is) a.valid

pub admitted_is : (bytes slice : List ℕ) → Admits bytes → slice ≡ drop 33 bytes → admission_record slice ≡ bytes
admitted_is bytes slice a e = ap admission_record (e ∙ (parts-of bytes a).slice_is) ∙ sym a.is

item_whole : (file : Format) (item : List ℕ) (head body : ℕ) → head_length file (get_or item 0 0) ≡ Some head
    → body_length file item ≡ body → length item ≡ head + body → 1 ≤ head → body ≤ largest_slice → framed file item
    ≡ Ok (length item)
item_whole file item head body tag is long one small =
    framed-whole file item head (omega arith) tag (omega arith) (omega arith) (omega arith)
    ∙ ap (λ (n : ℕ). Ok n) (omega arith)

-- a record is whole where its slice stands after an admission's head
record-framed : (file : Format) → admission_length file ≡ 33
    → ((bytes : List ℕ) → admission_body file bytes ≡ slice_length bytes) → (r : List ℕ) → IsRecord r → framed file r
    ≡ Ok (length r)
unfolding head_length
record-framed file head behind r (inl a) =
    let p = parts-of r a in
    let short = short_slice a.slice a.valid in
    item_whole file r 33 (length a.slice) (ap (head_length file) p.tag ∙ ap (λ (n : ℕ). Some n) head)
    (body_two file r p.tag ∙ behind r ∙ p.number) p.long (lit≤ tt) (omega arith)
record-framed file head behind r (inr t) =
    let p = parts-retires r t in
    item_whole file r 57 0 (ap (head_length file) p.tag) (body_one file r p.tag) p.long (lit≤ tt) (lit≤ tt)

-- an entry is whole, and no end record
pub entry-framed : (item : List ℕ) → IsEntry item → framed Summary item ≡ Ok (length item)
unfolding framed framed_after head_length body_length
entry-framed item is = grind (arith, nat_tests)

entry-no_end : (item : List ℕ) → IsEntry item → is_end item ≡ false
unfolding is_end
entry-no_end item is = grind (arith, nat_tests)

-- whole bytes of a summary that are no end record are an entry
pub entry-of : (bytes : List ℕ) → framed Summary bytes ≡ Ok (length bytes) → is_end bytes ≡ false → IsEntry bytes
unfolding framed framed_after head_length is_end body_length
entry-of bytes whole no_end = grind (arith, nat_tests)

-- an item is whole, is no end record, and is not refused for what it holds
pub item-framed : (file : Format) (item : List ℕ) → IsItem file item → framed file item ≡ Ok (length item)
item-framed Summary item is = entry-framed item is
item-framed file item is = record-framed file refl (λ bytes. refl) item is

pub item-no_end : (file : Format) (item : List ℕ) → IsItem file item → is_end item ≡ false
item-no_end Summary item is = entry-no_end item is
item-no_end _ item is = record-item item is

pub item-refused : (file : Format) (item : List ℕ) (kind : RecordFaultKind) → IsItem file item → Refuses file item kind → ⊥
item-refused Summary item kind is refused = refused
item-refused _ item kind is refused = record-slice item kind is refused

-- what is refused is a slice
pub refused_slice : (file : Format) (bytes : List ℕ) (kind : RecordFaultKind) → Refuses file bytes kind → RefusesSlice bytes kind
refused_slice Summary bytes kind refused = absurd refused
refused_slice _ bytes kind refused = refused

-- whole records of operations are framed as in an archive, of either version
pub archive_framed : (file : Format) → (file ≡ Archive) ⊎ (file ≡ OldArchive) ⊎ (file ≡ Operations) → (bytes : List ℕ)
    → framed file bytes ≡ Ok (length bytes) → is_end bytes ≡ false → framed Archive bytes ≡ Ok (length bytes)
unfolding framed framed_after head_length is_end body_length
archive_framed file is bytes whole no_end = grind (arith, nat_tests)

-- whole bytes with a retirement's tag are a retirement's record
retires_with : (bytes : List ℕ) (key : SliceKey) → framed Archive bytes ≡ Ok (length bytes) → get_or bytes 0 0 ≡ 1
    → key_bytes key ≡ take 24 (drop 1 bytes) → IsKey key → Retires bytes
retires_with [] key f tag k w = absurd (omega (arith, whole-retirement Archive [] f tag))
retires_with (b ∷ bs) key f tag k w =
    let long = whole-retirement Archive (b ∷ bs) f tag in
    record {
      key = key;
      digest = drop 24 bs;
      is_key = w;
      long = omega (arith, length-drop 24 bs);
      is = cc (tag, ap (λ (t : List ℕ). t ++ drop 24 bs) k ∙ take-append-drop 24 bs);
    }

be_small : (bs : List ℕ) → length bs ≡ 4 → IsBytes bs → from_be_bytes w32 bs < 2 ^ 32
be_small bs long fits = omega (arith, fits 0, fits 1, fits 2, fits 3)

-- the key in a record
key_at : (bytes : List ℕ) → 25 ≤ length bytes → IsBytes bytes → (key : SliceKey) × (key_bytes key ≡ take 24 (drop 1 bytes)) × IsKey key
key_at bytes long fits =
    let a : List ℕ = take 4 (drop 17 bytes) in
    let b : List ℕ = take 4 (drop 21 bytes) in
    let a4 : length a ≡ 4 = omega (arith, length-take 4 (drop 17 bytes), length-drop 17 bytes) in
    let b4 : length b ≡ 4 = omega (arith, length-take 4 (drop 21 bytes), length-drop 21 bytes) in
    let a_fits : IsBytes a = IsBytes-take 4 (drop 17 bytes) (IsBytes-drop 17 bytes fits) in
    let b_fits : IsBytes b = IsBytes-take 4 (drop 21 bytes) (IsBytes-drop 21 bytes fits) in
    let key : SliceKey = record { uuid = take 16 (drop 1 bytes); arch = record { cputype = from_be_bytes w32 a; cpusubtype = from_be_bytes w32 b } } in (
      key,
      read_key bytes key refl (be_bytes_4 a (from_be_bytes w32 a) a4 a_fits refl) (be_bytes_4 b (from_be_bytes w32 b) b4 b_fits refl),
      record { uuid = omega (arith, length-take 16 (drop 1 bytes), length-drop 1 bytes); cputype = be_small a a4 a_fits; cpusubtype = be_small b b4 b_fits },
    )

-- whole bytes with a retirement's tag are a retirement's record
pub retires : (bytes : List ℕ) → framed Archive bytes ≡ Ok (length bytes) → get_or bytes 0 0 ≡ 1 → IsBytes bytes → Retires bytes
retires bytes f tag fits =
    let long = whole-retirement Archive bytes f tag in
    let key = key_at bytes (omega (arith, long)) fits in
    retires_with bytes key.0 f tag key.1 key.2
