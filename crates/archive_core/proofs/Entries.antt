-- The entries of admissions and retirements, and what records have one entry.
use Rattle.std.proofs.Common.{◌≡◌, ℕ, List, ◌∷◌, ◌++◌, length, take, drop, refl, sym, ap, arith, ◌∙◌, inl, inr, append_assoc, length-append}
use Rattle.std.specs.Int.{w64, to_be_bytes}
use Rattle.std.proofs.lemmas.List.{take_at, drop_at}
use Rattle.sha2.specs.Sha256.{sha256}
use Rattle.sha2.proofs.Facts256.{length-sha256}
use Rattle.archive_core.specs.Key.{key_bytes}
use Rattle.archive_core.specs.Valid.{key_of, IsValid}
use Rattle.archive_core.specs.Record.{admission, admission_record, retirement_record, Admits, IsRecord}
use Rattle.archive_core.specs.declared.keys.SliceKey.{SliceKey}
use Rattle.archive_core.proofs.Records.{same_parts, length-key_of, length-retirement_record}
use Rattle.archive_core.specs.Content.{key_and_digest, covering}
use Rattle.archive_core.specs.Summary.{entry}

-- the slice, read back from the record
pub slice_of : (s : List ℕ) → IsValid s → drop 33 (admission_record s) ≡ s
unfolding admission
slice_of s valid =
    let prefix : List ℕ = key_bytes (key_of s) ++ to_be_bytes w64 (length s) in
    ap (drop 32) (sym (append_assoc (key_bytes (key_of s)) (to_be_bytes w64 (length s)) s))
    ∙ drop_at prefix s 32 (omega (arith, length-append (key_bytes (key_of s)) (to_be_bytes w64 (length s)), length-key_of s valid))

key_at : (s : List ℕ) → IsValid s → take 24 (drop 1 (admission_record s)) ≡ key_bytes (key_of s)
unfolding admission
key_at s valid = take_at (key_bytes (key_of s)) (to_be_bytes w64 (length s) ++ s) 24 (length-key_of s valid)

-- an admission's key and digest, read back from the record
pub admission_parts : (s : List ℕ) → IsValid s → key_and_digest (admission_record s) ≡ key_bytes (key_of s) ++ sha256 s
unfolding key_and_digest
admission_parts s valid = ap (λ l. l ++ sha256 (drop 33 (admission_record s))) (key_at s valid) ∙ ap (λ l. key_bytes (key_of s) ++ sha256 l) (slice_of s valid)

-- so the retirement that covers it is that of its key and digest
pub covering_admission : (s : List ℕ) → IsValid s → covering (admission_record s) ≡ retirement_record (key_of s) (sha256 s)
covering_admission s valid = ap (λ l. 1 ∷ l) (admission_parts s valid)

-- the entries, in the words of records
pub admission_entry : (s : List ℕ) → IsValid s → entry (admission_record s) ≡ 2 ∷ (key_bytes (key_of s) ++ sha256 s)
unfolding entry
admission_entry s valid = ap (λ l. 2 ∷ l) (admission_parts s valid)

pub retirement_entry : (key : SliceKey) (digest : List ℕ) → entry (retirement_record key digest) ≡ retirement_record key digest
unfolding entry
retirement_entry key digest = refl

-- an entry has as many bytes as a retirement's record
pub length-entry : (r : List ℕ) → IsRecord r → length (entry r) ≡ 57
length-entry r (inl a) =
    ap (λ (s : List ℕ). length (entry s)) a.is ∙ ap length (admission_entry a.slice a.valid)
    ∙ omega (arith, length-append (key_bytes (key_of a.slice)) (sha256 a.slice), length-key_of a.slice a.valid, length-sha256 a.slice)
length-entry r (inr b) = ap (λ (s : List ℕ). length (entry s)) b.is ∙ ap length (retirement_entry b.key b.digest)
    ∙ length-retirement_record b.key b.digest b.is_key b.long

-- the entry of a retirement is of no other record
pub retirement_of_entry : (key : SliceKey) (digest r : List ℕ) → IsRecord r → entry r ≡ entry (retirement_record key digest) → r ≡ retirement_record key digest
retirement_of_entry key digest r (inl a) e = cc (admission_entry a.slice a.valid, a.is, retirement_entry key digest)
retirement_of_entry key digest r (inr b) e = cc (b.is, retirement_entry b.key b.digest, retirement_entry key digest)

-- the entry of an admission is of admissions alone, under the same key and of slices with the same SHA-256
pub admissions_of_entry : (slice r : List ℕ) → IsValid slice → IsRecord r → entry r ≡ entry (admission_record slice)
    → (other : Admits r) × (key_bytes (key_of other.slice) ≡ key_bytes (key_of slice)) × (sha256 other.slice ≡ sha256 slice)
admissions_of_entry slice r valid (inl a) e =
    let same : key_bytes (key_of a.slice) ++ sha256 a.slice ≡ key_bytes (key_of slice) ++ sha256 slice =
    cc (admission_entry a.slice a.valid, a.is, admission_entry slice valid) in
    let parts = same_parts (key_bytes (key_of a.slice)) (key_bytes (key_of slice)) (sha256 a.slice) (sha256 slice)
    (length-key_of a.slice a.valid ∙ sym (length-key_of slice valid)) same in
    (a, parts.0, parts.1)
admissions_of_entry slice r valid (inr b) e = cc (admission_entry slice valid, b.is, retirement_entry b.key b.digest)

-- records with one entry are one, where the slices that they admit are told apart by their SHA-256
pub entry_tells : (r s : List ℕ) → IsRecord r → IsRecord s → entry r ≡ entry s
    → ((a b : List ℕ) → r ≡ admission_record a → s ≡ admission_record b → sha256 a ≡ sha256 b → a ≡ b) → r ≡ s
entry_tells r s is_r (inr b) e tells = retirement_of_entry b.key b.digest r is_r (e ∙ ap entry b.is) ∙ sym b.is
entry_tells r s is_r (inl b) e tells =
    let found = admissions_of_entry b.slice r b.valid is_r (e ∙ ap entry b.is) in
    found.0.is ∙ ap admission_record (tells found.0.slice b.slice found.0.is b.is found.2) ∙ sym b.is
