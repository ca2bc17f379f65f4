-- The record that an entry names, and when none is there.
use Rattle.std.proofs.Common.{◌≡◌, ◌≢◌, ℕ, ◌+◌, ◌-◌, ◌<◌, ◌^◌, true, false, cond, eqb, List, ◌∷◌, ◌++◌, length, take}
use Rattle.std.proofs.Common.{drop, get_or, Option, Some, None, refl, sym, ap, ◌∙◌, subst, inl, inr, arith, length-drop}
use Rattle.std.proofs.Common.{length-take, nat_le, ◌&&◌, eq-eqb}
use Rattle.std.specs.Prelude.{IfSome}
use Rattle.archive_records.proofs.Forms.{parts-of}
use Rattle.std.specs.Int.{w64, to_be_bytes, from_be_bytes}
use Rattle.archive_core.specs.Key.{IsKey, key_bytes}
use Rattle.archive_core.specs.Record.{Admits, retirement_record}
use Rattle.archive_core.specs.Content.{is_admission}
use Rattle.archive_core.specs.declared.find.FindState.{FindState}
use Rattle.archive_core.specs.declared.find.FindState.TheVariants.{Retired}
use Rattle.std.proofs.lemmas.Bool.{eqb-true}
use Rattle.archive_records.specs.Layout.{largest_slice, slice_length}
use Rattle.archive_core.proofs.Entries.{retirement_entry}
use Rattle.archive_core.proofs.Records.{length-retirement_record}
use Rattle.byte_device.specs.Places.{EndsBefore, Stands}
use Rattle.index_format.specs.declared.entry.IndexEntry.{IndexEntry}
use Rattle.index_format.specs.Entry.{IsPlacedEntry, length_in, offset_in, placed_bytes, placed_entry, tag_byte, dsym_byte}
use Rattle.index_format.specs.Places.{IsNamedBy}
use Rattle.index_format.specs.declared.fault.PlaceFault.TheVariants.{Stale}
use Rattle.index_format.specs.InnerGathering.{FailsOf, IsUnnamed}
use Rattle.index_format.proofs.Entries.{length_of_bytes, offset_of_bytes}
use Rattle.index_format.proofs.Placed.{length_is, offset_is, tag_is}

first_byte : (e : IndexEntry) → get_or (placed_bytes e) 0 0 ≡ tag_byte e.row.state
unfolding placed_bytes
first_byte e = refl

tag_two : (state : FindState) → state ≢ Retired → tag_byte state ≡ 2
tag_two state other = grind arith

-- an entry of no retirement names an admission, which stands at its place
pub record IsAdmissionAt (text : List ℕ) (e : IndexEntry) (r : List ℕ) : Type 0 where
  pub admits : Admits r
  pub offset : ℕ
  pub offset_is : offset ≡ e.offset
  pub long : length r ≡ e.length
  pub entry_is : placed_bytes e ≡ placed_entry offset r
  pub stands : take (length r) (drop e.offset text) ≡ r

pub admission_at : (text : List ℕ) (e : IndexEntry) (r : List ℕ) → IsPlacedEntry (placed_bytes e) → e.offset < 2 ^ 64
    → e.length < 2 ^ 64 → e.row.state ≢ Retired → IsNamedBy text (placed_bytes e) r → IsAdmissionAt text e r
admission_at text e r is offset_fits length_fits other n =
    let tag : get_or r 0 0 ≡ 2 = sym (tag_is n.offset r n.is) ∙ ap (λ (t : List ℕ). get_or t 0 0) (sym n.entry_is) ∙ first_byte e ∙ tag_two e.row.state other in
    let offsets : n.offset ≡ e.offset = sym (offset_is n.offset r n.is n.fits) ∙ ap offset_in (sym n.entry_is) ∙ offset_of_bytes e is.long offset_fits in
    let lengths : length r ≡ e.length = sym (length_is n.offset r n.is) ∙ ap length_in (sym n.entry_is) ∙ length_of_bytes e is.long length_fits in
    elim n.is [
      | inl a ↦ record {
        admits = a;
        offset = n.offset;
        offset_is = offsets;
        long = lengths;
        entry_is = n.entry_is;
        stands = ap (λ (k : ℕ). take (length r) (drop k text)) (sym offsets) ∙ n.stands (ap is_admission a.is);
      }
      | inr b ↦ absurd (omega (arith, ap (λ (t : List ℕ). get_or t 0 0) b.is, tag))
    ]

-- the record of an admission is read where it stands
pub read_of : (Fails : ℕ → ℕ → Type 0) (e : IndexEntry) → IsPlacedEntry (placed_bytes e) → e.offset < 2 ^ 64 → e.length < 2 ^ 64
    → e.row.state ≢ Retired → Fails e.offset e.length → FailsOf Fails (placed_bytes e) e.offset
read_of Fails e is offset_fits length_fits other fails = (
  ap (λ (n : ℕ). eqb n 2) (first_byte e ∙ tag_two e.row.state other),
  sym (offset_of_bytes e is.long offset_fits),
  subst (Fails e.offset) (sym (length_of_bytes e is.long length_fits)) fails,
)

-- none where fewer bytes stand
pub none_short : (whole : Option (List ℕ)) (number : ℕ) (e : IndexEntry) → IsPlacedEntry (placed_bytes e)
    → e.offset < 2 ^ 64 → e.length < 2 ^ 64 → e.row.state ≢ Retired → EndsBefore whole (e.offset + e.length)
    → IfSome whole (λ text. IsUnnamed number (placed_bytes e) text (Stale (Some number)))
none_short None number e is offset_fits length_fits other ends = tt
none_short (Some text) number e is offset_fits length_fits other ends = (
  refl,
  λ r n.
      let at = admission_at text e r is offset_fits length_fits other n in
      omega (arith, at.long, ap length at.stands, length-take (length r) (drop e.offset text), length-drop e.offset text, ends, ap length at.admits.is),
)

-- none where other bytes stand
pub none_other : (whole : Option (List ℕ)) (number : ℕ) (e : IndexEntry) (bytes : List ℕ)
    → IsPlacedEntry (placed_bytes e) → e.offset < 2 ^ 64 → e.length < 2 ^ 64 → e.row.state ≢ Retired → length bytes
    ≡ e.length → Stands whole e.offset bytes
    → (Admits bytes → placed_bytes e ≡ placed_entry e.offset bytes → ⊥) → IfSome whole (λ text. IsUnnamed number (placed_bytes e) text (Stale (Some number)))
none_other None number e bytes is offset_fits length_fits other long stands not = tt
none_other (Some text) number e bytes is offset_fits length_fits other long stands not = (
  refl,
  λ r n.
      let at = admission_at text e r is offset_fits length_fits other n in
      let same : r ≡ bytes = sym at.stands ∙ ap (λ (k : ℕ). take k (drop e.offset text)) (at.long ∙ sym long) ∙ stands in
      not (subst Admits same at.admits) (at.entry_is ∙ (λ i. placed_entry (at.offset_is i) (same i))),
)

-- a retirement is in its entry
retired_length : (e : IndexEntry) → IsPlacedEntry (placed_bytes e) → e.length < 2 ^ 64 → e.row.state ≡ Retired → e.length ≡ 57
retired_length e is fits retired =
    let tag : get_or (placed_bytes e) 0 0 ≡ 1 = first_byte e ∙ ap tag_byte retired in
    let test : eqb (length_in (placed_bytes e)) 57 ≡ true =
    sym (ap (λ (n : ℕ). cond (eqb n 2) (nat_le 33 (length_in (placed_bytes e))
    && nat_le (length_in (placed_bytes e)) (33 + largest_slice)) (eqb (length_in (placed_bytes e)) 57)) tag)
    ∙ is.length_is in
    sym (length_of_bytes e is.long fits) ∙ eqb-true (length_in (placed_bytes e)) 57 test

pub named_retirement : (whole : Option (List ℕ)) (e : IndexEntry) → IsPlacedEntry (placed_bytes e) → e.offset < 2 ^ 64
    → e.length < 2 ^ 64 → e.row.state ≡ Retired → IsKey e.row.key → length e.row.digest.0 ≡ 32
    → IfSome whole (λ text. IsNamedBy text (placed_bytes e) (retirement_record e.row.key e.row.digest.0))
unfolding placed_bytes placed_entry
named_retirement None e is offset_fits length_fits retired is_key long = tt
named_retirement (Some text) e is offset_fits length_fits retired is_key long =
    let r = retirement_record e.row.key e.row.digest.0 in
    let n : e.length ≡ length r = retired_length e is length_fits retired ∙ sym (length-retirement_record e.row.key e.row.digest.0 is_key long) in
    record {
      is = inr (record { key = e.row.key; digest = e.row.digest.0; is_key = is_key; long = long; is = refl });
      offset = e.offset;
      fits = offset_fits;
      entry_is =
          (λ i. (tag_byte (retired i) ∷ (key_bytes e.row.key ++ e.row.digest.0))
          ++ (dsym_byte (retired i) ∷ (to_be_bytes w64 e.offset ++ to_be_bytes w64 (n i))))
          ∙ ap (λ (t : List ℕ). t ++ (0 ∷ (to_be_bytes w64 e.offset ++ to_be_bytes w64 (length r)))) (sym (retirement_entry e.row.key e.row.digest.0));
      stands = λ h. cc;
    }

-- an admission's head claims the length of its slice
pub claims_long : (bytes : List ℕ) (n : ℕ) → Admits bytes → n ≡ from_be_bytes w64 (take 8 (drop 25 bytes)) → eqb n (length bytes - 33) ≡ false → ⊥
unfolding slice_length
claims_long bytes n a is fails =
    let p = parts-of bytes a in
    let number : from_be_bytes w64 (take 8 (drop 25 bytes)) ≡ length a.slice = p.number in
    let same : n ≡ length bytes - 33 = omega (arith, is, number, p.long) in
    cc (eq-eqb n (length bytes - 33) same)
