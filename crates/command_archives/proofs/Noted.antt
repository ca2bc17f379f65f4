-- Notes as they are added.
use Rattle.std.proofs.Common.{arith, ◌≡◌, ◌<◌, ◌+◌, ◌++◌, ◌∷◌, [], ℕ, Bool, if◌then◌else◌, List, get_or, length, map, take, refl, sym, ap, ◌∙◌}
use Rattle.std.proofs.lemmas.List.{flat_map_more, take_more}
use Rattle.std.specs.List.{AllByRecursion, filter, flat_map}
use Rattle.sha2.specs.Sha256.{sha256}
use Rattle.join_core.specs.Listing.{listing}
use Rattle.archive_core.specs.Content.{Operations, is_covered}
use Rattle.archive_core.specs.Record.{IsOperation, admission_record, record_bytes}
use Rattle.archive_core.specs.Valid.{IsValid, key_of}
use Rattle.archive_core.specs.declared.keys.Digest.{Digest}
use Rattle.archive_core.specs.declared.keys.SliceKey.{SliceKey}
use Rattle.archive_core.specs.declared.operations.Operation.{Operation}
use Rattle.archive_core.specs.declared.operations.Operation.TheVariants.{Admit, Retire}
use Rattle.archive_core.proofs.Entries.{slice_of}
use Rattle.archive_merge.specs.Arrivals.{arrival_of}
use Rattle.command_archives.specs.InnerNotes.{note_of}
use Rattle.command_archives.specs.Notes.{has_slice, missing_notes, retired_note, retired_notes}
use Rattle.command_common.specs.declared.notes.Note.{Note}
use Rattle.command_common.specs.declared.notes.Note.TheVariants.{Retired, Missing}

-- ---- slices that are retired

-- the note of an operation, by what it is to a content
abbrev pub note_by : Operations → Operation → List Note
note_by o operation = note_of (arrival_of o (record_bytes operation)) operation

one_note : (slice : List ℕ) → IsValid slice → Retired (key_of slice) (record { 0 = sha256 slice }) ≡ retired_note (admission_record slice)
one_note slice valid = rw (slice_of slice valid) refl

-- each has its own
noted : (o : Operations) (operations : List Operation) → AllByRecursion IsOperation operations
    → flat_map (note_by o) operations ≡ map retired_note (filter (is_covered o) (map record_bytes operations))
unfolding arrival_of
noted o [] all = refl
noted o (Admit slice ∷ rest) all = grind (arith, one_note slice all.0, noted o rest all.1)
noted o (Retire key digest ∷ rest) all = grind (arith, noted o rest all.1)

pub all_noted : (o : Operations) (operations : List Operation) → AllByRecursion IsOperation operations
    → (came : Operations) → map record_bytes operations ≡ listing came → flat_map (note_by o) operations
    ≡ retired_notes o came
all_noted o operations all came listed = noted o operations all ∙ ap (λ (rs : List (List ℕ)). map retired_note (filter (is_covered o) rs)) listed

-- one more
pub noted_more : (f : Operation → List Note) (old : List Note) (operations : List Operation) (i : ℕ)
    (operation : Operation) → i < length operations → operation ≡ get_or operations i operation
    → (now : List Note) → now ≡ old ++ flat_map f (take i operations) → (new : List Note) → new ≡ now ++ f operation
    → new ≡ old ++ flat_map f (take (i + 1) operations)
noted_more f old operations i operation lt at now before new more =
    more ∙ ap (λ ns. ns ++ f operation) before ∙ flat_map_more f old (take i operations) operation
    ∙ ap (λ xs. old ++ flat_map f xs) (ap (λ x. take i operations ++ x ∷ []) at ∙ sym (take_more operations i operation lt))

-- ---- a slice that is missing

pub missing_noted : (o : Operations) (key : SliceKey) (digest : Digest) (old : List Note) (had : Bool) → had
    ≡ has_slice o key digest → old ++ (if had then [] else Missing key digest ∷ []) ≡ old ++ missing_notes o key digest
missing_noted o key digest old had is = ap (λ (b : Bool). old ++ (if b then [] else Missing key digest ∷ [])) is
