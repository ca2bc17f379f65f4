-- The slices of the parts of a file, one part more at a time.
use Rattle.std.proofs.Common.{◌≡◌, ℕ, ◌+◌, ◌<◌, Bool, true, false, List, [], ◌∷◌, ◌++◌, length, map, take, Option, Some}
use Rattle.std.proofs.Common.{None, slice_get, refl, sym, ap, subst, ◌∙◌, arith}
use Rattle.std.specs.Prelude.{if◌then◌else◌}
use Rattle.std.proofs.lemmas.List.{map-append, take_more}
use Rattle.std.proofs.lemmas.Option.{get_or_from_slice_get, slice_get_within}
use Rattle.fat_slices.specs.Kind.{kind_of}
use Rattle.fat_slices.specs.Slices.{slices}
use Rattle.fat_slices.specs.declared.file_kind.FileKind.TheVariants.{Thin}
use Rattle.archive_core.specs.declared.slices.SliceFacts.{SliceFacts}
use Rattle.archive_core.specs.Content.{Operations}
use Rattle.archive_image_admission.specs.Accepted.{AreFound, IsAcceptedAs}
use Rattle.archive_image_admission.specs.File.{parts, slice_in}
use Rattle.archive_image_admission.specs.InnerTaking.{file_of}
use Rattle.archive_image_admission.specs.Take.{taken_of, taken_rows}
use Rattle.archive_image_admission.specs.declared.checking.AcceptedFile.{AcceptedFile}
use Rattle.archive_image_admission.specs.declared.checking.AcceptedFile.TheVariants.{Thin as thin_file, Universal as universal_file}
use Rattle.archive_image_admission.specs.declared.taken.Taken.{Taken}
use Rattle.archive_image_admission.specs.declared.taken.Taken.TheVariants.{Skipped}
use Rattle.archive_image_admission.proofs.FileKinds.{parts_fat, parts_thin, thin_begins}
use Rattle.archive_image_admission.proofs.Rows.{skipped_row, taken_row}

abbrev by_test : List ℕ → Bool → Option (List ℕ)
by_test part begins = if begins then Some part else None

pub thin_slice : (file : List ℕ) → kind_of file ≡ Thin → Some file ≡ slice_in file
thin_slice file thin = ap (by_test file) (thin_begins file thin)

-- what a part is that is a slice, and one that is none
slice_by : (part slice : List ℕ) (begins : Bool) → Some slice ≡ by_test part begins → (true ≡ begins) × (slice ≡ part)
slice_by part slice true is = (refl, cc)
slice_by part slice false is = absurd (cc)

none_by : (part : List ℕ) (begins : Bool) → None ≡ by_test part begins → false ≡ begins
none_by part true is = absurd (cc)
none_by part false is = refl

pub slice_row : (o : Operations) (part slice : List ℕ) (row : Taken) → Some slice ≡ slice_in part → row ≡ taken_of o slice → row ∷ [] ≡ taken_rows o (part ∷ [])
slice_row o part slice row is row_is =
    let by = slice_by part slice _ is in
    taken_row o part row by.0 (row_is ∙ ap (taken_of o) by.1)

pub none_row : (o : Operations) (part : List ℕ) → None ≡ slice_in part → Skipped ∷ [] ≡ taken_rows o (part ∷ [])
none_row o part is = skipped_row o part (none_by part _ is)

-- ---- the parts of an accepted file

pub thin_part : (a : AcceptedFile) (file : List ℕ) → a ≡ thin_file file → IsAcceptedAs (file_of a) a → parts (file_of a) ≡ file ∷ []
thin_part a file is as_is =
    subst (λ (b : AcceptedFile). parts (file_of b) ≡ file ∷ []) (sym is)
    (parts_thin file (subst (λ (b : AcceptedFile). IsAcceptedAs (file_of b) b) is as_is).0)

pub fat_parts : (a : AcceptedFile) (file : List ℕ) (found : List (Option SliceFacts)) → a ≡ universal_file file found
    → IsAcceptedAs (file_of a) a → parts (file_of a) ≡ slices file
fat_parts a file found is as_is =
    subst (λ (b : AcceptedFile). parts (file_of b) ≡ slices file) (sym is)
    (parts_fat file (subst (λ (b : AcceptedFile). IsAcceptedAs (file_of b) b) is as_is).0)

pub fat_found : (a : AcceptedFile) (file : List ℕ) (found : List (Option SliceFacts)) → a ≡ universal_file file found
    → IsAcceptedAs (file_of a) a → AreFound (slices file) found
fat_found a file found is as_is = (subst (λ (b : AcceptedFile). IsAcceptedAs (file_of b) b) is as_is).2

pub thin_at : (a : AcceptedFile) (file slice : List ℕ) (index : ℕ) → a ≡ thin_file file → IsAcceptedAs (file_of a) a
    → index < length (parts (file_of a)) → slice ≡ file
    → (part : List ℕ) × (slice_get (parts (file_of a)) index ≡ Some part) × (Some slice ≡ slice_in part)
thin_at a file slice index is as_is within same =
    let one = thin_part a file is as_is in
    let thin = (subst (λ (b : AcceptedFile). IsAcceptedAs (file_of b) b) is as_is).0 in
    let first : index ≡ 0 = omega (arith, within, ap length one) in
    (file, ap (λ (i : ℕ). slice_get (parts (file_of a)) i) first ∙ ap (λ (xs : List (List ℕ)). slice_get xs 0) one, ap Some same ∙ thin_slice file thin)

-- ---- one part more

pub one_alone : (file : List ℕ) (none all : List (Option (List ℕ))) → kind_of file ≡ Thin → none ≡ [] → all ≡ none
    ++ Some file ∷ [] → all ≡ map slice_in (parts file)
one_alone file none all thin none_is all_is =
    all_is ∙ rw (none_is, parts_thin file thin) (ap (λ (s : Option (List ℕ)). s ∷ []) (thin_slice file thin))

pub one_more : (xs : List (List ℕ)) (i : ℕ) (x : List ℕ) (before more : List (Option (List ℕ)))
    (slice : Option (List ℕ)) → before ≡ map slice_in (take i xs) → slice_get xs i ≡ Some x → slice ≡ slice_in x → more
    ≡ before ++ slice ∷ []
    → more ≡ map slice_in (take (i + 1) xs)
one_more xs i x before more slice before_is is slice_is more_is =
    more_is ∙ rw (before_is, slice_is, take_more xs i x (slice_get_within xs i x is), get_or_from_slice_get xs i x x is)
    (sym (map-append slice_in (take i xs) (x ∷ [])))
