-- What the retirements that were read say of a record, and what was found out of it.
use Rattle.std.proofs.Common.{◌≡◌, ℕ, Bool, true, false, ◌||◌, List, [], ◌∷◌, length, get_or, drop, sym, ap, subst, ◌∙◌, arith, inl, inr}
use Rattle.std.proofs.lemmas.Bool.Decides.{nat_tests}
use Rattle.std.proofs.lemmas.Bool.{false≢true}
use Rattle.sha2.specs.Sha256.{sha256}
use Rattle.std.specs.Prelude.{is_some, Option, None, Some}
use Rattle.std.specs.Cmp.Lexicographic.{nat_list_cmp_total}
use Rattle.std.specs.FinSet.{contains, contains-insert}
use Rattle.macho_image.proofs.Told.{has_header}
use Rattle.archive_core.specs.declared.slices.SliceFacts.{SliceFacts}
use Rattle.archive_core.specs.Valid.{IsValid, key_of}
use Rattle.archive_core.specs.Content.{is_covered}
use Rattle.archive_core.specs.Record.{IsRecord, Admits, Retires, retirement_record}
use Rattle.archive_core.proofs.Words.{covered_slice}
use Rattle.archive_records.specs.declared.format.Format.{Format}
use Rattle.archive_records.specs.declared.format.Format.TheVariants.{Summary}
use Rattle.archive_records.specs.Entry.{IsEntry}
use Rattle.archive_records.specs.Kind.{kind_of}
use Rattle.archive_records.specs.Reader.{set_of, Keeps, IsFound as IsFoundOf, IsFoundIn, IsFoundOfLast}
use Rattle.archive_records.proofs.Forms.{parts-of, admitted_is, admitted_valid}
use Rattle.archive_records.proofs.Contents.{same_bytes}
use Rattle.archive_records.proofs.KeptRecords.{long_record}
use Rattle.archive_records.proofs.Apart.{is_false, same_as}

-- a retirement is not covered
pub uncovered_retirement : (old : List (List ℕ)) (x : List ℕ) → get_or x 0 0 ≡ 1 → is_covered (set_of old) x ≡ false
uncovered_retirement old x tag = grind (arith, nat_tests)

-- an admission is covered where the retirement of its slice is there
pub covered_admission : (old : List (List ℕ)) (bytes slice : List ℕ) → Admits bytes → slice ≡ drop 33 bytes
    → contains (set_of old) (retirement_record (key_of slice) (sha256 slice)) ≡ is_covered (set_of old) bytes
covered_admission old bytes slice a e =
    let valid : IsValid slice = subst IsValid (sym e) (admitted_valid bytes a) in
    sym (covered_slice (set_of old) slice valid) ∙ ap (λ (t : List ℕ). is_covered (set_of old) t) (admitted_is bytes slice a e)

-- ---- what was found out of the last record

-- an entry is no admission's record
no_admission_entry : (bytes : List ℕ) → IsEntry bytes → Admits bytes → ⊥
no_admission_entry bytes is a = omega (arith, is.long, (parts-of bytes a).long, (has_header a.slice a.valid.image.header).header)

retired_entry : (bytes : List ℕ) → IsEntry bytes → IsRecord bytes → Retires bytes
retired_entry bytes is (inl a) = absurd (no_admission_entry bytes is a)
retired_entry bytes is (inr t) = t

pub found_last : (file : Format) (bytes : List ℕ) (found : Option SliceFacts) → IsFoundIn (kind_of file) bytes found → IsFoundOfLast bytes found
found_last Summary bytes None is = retired_entry bytes is.0
found_last Summary bytes (Some facts) is = absurd (cc is.1)
found_last _ bytes None is = λ _. is
found_last _ bytes (Some facts) is = is

-- where nothing was read, nothing is to be found out
pub nothing_last : (bytes : List ℕ) → bytes ≡ [] → IsFoundOfLast bytes None
nothing_last bytes is = λ r. absurd (omega (arith, long_record bytes r, ap length is))

-- what was found out tells which record it is
pub some_admits : (bytes : List ℕ) (found : Option SliceFacts) → is_some found ≡ true → IsFoundOf bytes found → Admits bytes
some_admits bytes None some is = absurd (false≢true some)
some_admits bytes (Some facts) some is = is.0

pub none_retires : (bytes : List ℕ) (found : Option SliceFacts) → is_some found ≡ false → IsFoundOf bytes found → Retires bytes
none_retires bytes None none is = is
none_retires bytes (Some facts) none is = absurd (false≢true (sym none))

-- a record of which so much is known was found out
pub found_record : (bytes : List ℕ) (found : Option SliceFacts) → IsRecord bytes → IsFoundOfLast bytes found → IsFoundOf bytes found
found_record bytes None r is = is r
found_record bytes (Some facts) r is = is

pub keeps_admission : (old : List (List ℕ)) (covered : Bool) (x : List ℕ) → (get_or x 0 0 ≡ 1 → ⊥) → covered
    ≡ is_covered (set_of old) x → Keeps old old covered x
keeps_admission old covered x tag tells = record {
  tells = sym tells;
  alike = λ r. sym (contains-insert nat_list_cmp_total (set_of old) x (1 ∷ r)
      ∙ ap (λ b. b || contains (set_of old) (1 ∷ r)) (is_false (same_as (1 ∷ r) x)
      (λ e. tag (ap (λ (t : List ℕ). get_or t 0 0) (sym (same_bytes (1 ∷ r) x e))))));
}
