-- Records: how long they are, that none begins another, and that each stands for one operation.
use Rattle.std.proofs.Common.{◌≡◌, ℕ, ◌+◌, ◌^◌, ◌<◌, List, [], ◌++◌, length, take, drop, refl, sym, ap, ◌∙◌, inl, inr}
use Rattle.std.proofs.Common.{arith, append_assoc, length-append, w32, w64}
use Rattle.std.specs.Int.{to_be_bytes, from_be_bytes}
use Rattle.std.proofs.lemmas.List.{append-nil, take_at, drop_at, nil_from_length}
use Rattle.std.proofs.lemmas.Nat.{from_be_bytes-to_be_bytes_4, from_be_bytes-to_be_bytes_8}
use Rattle.macho_image.proofs.Told.{uuid_of-length, length-image}
use Rattle.archive_core.specs.Key.{IsKey, key_bytes}
use Rattle.archive_core.specs.Valid.{IsValid, key_of}
use Rattle.archive_core.specs.Record.{admission, admission_record, retirement_record, IsRecord, IsOperation, record_bytes}
use Rattle.archive_core.specs.declared.keys.SliceKey.{SliceKey}
use Rattle.archive_core.specs.declared.operations.Operation.{Operation}
use Rattle.archive_core.specs.declared.operations.Operation.TheVariants.{Admit, Retire}
use Rattle.archive_core.proofs.Compare.{length_key_bytes}

-- texts whose first parts are as long fall into the same parts
pub same_parts : (a b x y : List ℕ) → length a ≡ length b → a ++ x ≡ b ++ y → (a ≡ b) × (x ≡ y)
same_parts a b x y long e = (
  sym (take_at a x (length a) refl) ∙ ap (take (length a)) e ∙ take_at b y (length a) (sym long),
  sym (drop_at a x (length a) refl) ∙ ap (drop (length a)) e ∙ drop_at b y (length a) (sym long),
)

-- the key of a slice has 24 bytes in its record
pub length-key_of : (slice : List ℕ) → IsValid slice → length (key_bytes (key_of slice)) ≡ 24
unfolding key_of
length-key_of slice valid = length_key_bytes (key_of slice) (uuid_of-length slice valid.image)

-- an admission's record has 33 bytes before the slice
pub length-admission_record : (slice : List ℕ) → IsValid slice → length (admission_record slice) ≡ 33 + length slice
unfolding admission
length-admission_record slice valid =
    omega (
      arith,
      length-append (key_bytes (key_of slice)) (to_be_bytes w64 (length slice) ++ slice),
      length-append (to_be_bytes w64 (length slice)) slice,
      length-key_of slice valid,
    )

-- a retirement's record has 57 bytes
pub length-retirement_record : (key : SliceKey) (digest : List ℕ) → IsKey key → length digest ≡ 32 → length (retirement_record key digest) ≡ 57
length-retirement_record key digest is_key long =
    omega (arith, length-append (key_bytes key) digest, length_key_bytes key is_key.uuid, long)

-- what follows an admission within another is nothing, and both are of one slice
same_admissions : (a b rest : List ℕ) → IsValid a → IsValid b → admission b ≡ admission a ++ rest → (b ≡ a) × (rest ≡ [])
unfolding admission
same_admissions a b rest valid_a valid_b e =
    let split : key_bytes (key_of b) ++ (to_be_bytes w64 (length b) ++ b) ≡ key_bytes (key_of a)
    ++ (to_be_bytes w64 (length a) ++ (a ++ rest)) = e ∙ append_assoc (key_bytes (key_of a)) _ rest
    ∙ ap (λ s. key_bytes (key_of a) ++ s) (append_assoc (to_be_bytes w64 (length a)) a rest) in
    let behind_key = (same_parts _ _ _ _ (length-key_of b valid_b ∙ sym (length-key_of a valid_a)) split).1 in
    let parts = same_parts (to_be_bytes w64 (length b)) (to_be_bytes w64 (length a)) b (a ++ rest) refl behind_key in
    let short_a : length a < 2 ^ 32 = length-image a valid_a.image in
    let short_b : length b < 2 ^ 32 = length-image b valid_b.image in
    let long : length b ≡ length a = sym (from_be_bytes-to_be_bytes_8 (length b) (omega arith))
    ∙ ap (from_be_bytes w64) parts.0 ∙ from_be_bytes-to_be_bytes_8 (length a) (omega arith) in
    let none : rest ≡ [] = nil_from_length rest (omega (arith, long, ap length parts.1, length-append a rest)) in
    (parts.1 ∙ ap (λ s. a ++ s) none ∙ append-nil a, none)

-- no record begins another
pub no_record_begins : (r s rest : List ℕ) → IsRecord r → IsRecord s → s ≡ r ++ rest → rest ≡ []
no_record_begins r s rest (inl a) (inl b) e = (same_admissions a.slice b.slice rest a.valid b.valid (cc (a.is, b.is))).1
no_record_begins r s rest (inl a) (inr b) e = cc (a.is, b.is)
no_record_begins r s rest (inr a) (inl b) e = cc (a.is, b.is)
no_record_begins r s rest (inr a) (inr b) e =
    nil_from_length rest (omega (
      arith,
      length-retirement_record a.key a.digest a.is_key a.long,
      length-retirement_record b.key b.digest b.is_key b.long,
      ap length a.is,
      ap length b.is,
      ap length e,
      length-append r rest,
    ))

-- keys with the same bytes are the same
pub one_key : (k l : SliceKey) → IsKey k → IsKey l → key_bytes k ≡ key_bytes l → k ≡ l
unfolding key_bytes
one_key k l is_k is_l e =
    let uuid = same_parts k.uuid l.uuid _ _ (is_k.uuid ∙ sym is_l.uuid) e in
    let arch = same_parts (to_be_bytes w32 k.arch.cputype) (to_be_bytes w32 l.arch.cputype)
    (to_be_bytes w32 k.arch.cpusubtype) (to_be_bytes w32 l.arch.cpusubtype) refl uuid.1 in
    let cputype : k.arch.cputype ≡ l.arch.cputype = sym (from_be_bytes-to_be_bytes_4 k.arch.cputype is_k.cputype)
    ∙ ap (from_be_bytes w32) arch.0 ∙ from_be_bytes-to_be_bytes_4 l.arch.cputype is_l.cputype in
    let cpusubtype : k.arch.cpusubtype ≡ l.arch.cpusubtype =
    sym (from_be_bytes-to_be_bytes_4 k.arch.cpusubtype is_k.cpusubtype) ∙ ap (from_be_bytes w32) arch.1
    ∙ from_be_bytes-to_be_bytes_4 l.arch.cpusubtype is_l.cpusubtype in
    λ i. record { uuid = uuid.0 i; arch = record { cputype = cputype i; cpusubtype = cpusubtype i } }

-- different operations have different records
pub one_operation : (a b : Operation) → IsOperation a → IsOperation b → record_bytes a ≡ record_bytes b → a ≡ b
one_operation (Admit a) (Admit b) valid_a valid_b e = ap Admit (sym (same_admissions a b [] valid_a valid_b (cc (append-nil (admission a)))).0)
one_operation (Admit a) (Retire l e) valid_a is_b h = cc
one_operation (Retire k d) (Admit b) is_a valid_b h = cc
one_operation (Retire k d) (Retire l e) is_a is_b h =
    let parts = same_parts (key_bytes k) (key_bytes l) d.0 e.0 (length_key_bytes k is_a.0.uuid ∙ sym (length_key_bytes l is_b.0.uuid)) (cc (h)) in
    let key : k ≡ l = one_key k l is_a.0 is_b.0 parts.0 in
    λ i. Retire (key i) (record { 0 = parts.1 i })

-- each operation has a record
pub record_of_operation : (a : Operation) → IsOperation a → IsRecord (record_bytes a)
record_of_operation (Admit slice) valid = inl (record { slice = slice; valid = valid; is = refl })
record_of_operation (Retire key digest) is = inr (record { key = key; digest = digest.0; is_key = is.0; long = is.1; is = refl })

-- each record is that of an operation
pub operation_of_record : (r : List ℕ) → IsRecord r → (a : Operation) × IsOperation a × (record_bytes a ≡ r)
operation_of_record r (inl admits) = (Admit admits.slice, admits.valid, sym admits.is)
operation_of_record r (inr retires) = (Retire retires.key (record { 0 = retires.digest }), (retires.is_key, retires.long), sym retires.is)
