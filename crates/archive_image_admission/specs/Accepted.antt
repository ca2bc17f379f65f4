-- The form in which an accepted file was accepted.
use Rattle.std.specs.Prelude.{◌≡◌, ℕ, List, Option, None, Some, true, false, slice_get, slice_index_or}
use Rattle.fat_slices.specs.Kind.{kind_of, is_fat}
use Rattle.fat_slices.specs.Slices.{slices}
use Rattle.fat_slices.specs.declared.file_kind.FileKind.TheVariants.{Thin as thin_kind}
use Rattle.archive_core.specs.Valid.{IsCheckedOf}
use Rattle.archive_core.specs.declared.slices.SliceFacts.{SliceFacts}
use Rattle.archive_image_admission.specs.File.{is_admissible}
use Rattle.archive_image_admission.specs.declared.checking.AcceptedFile.{AcceptedFile}
use Rattle.archive_image_admission.specs.declared.checking.AcceptedFile.TheVariants.{Thin, Universal}

-- the facts from the check of a part, if it begins as an image; otherwise there are none
abbrev pub AreFactsOf : List ℕ → Option SliceFacts → Type 0
AreFactsOf part None = is_admissible part ≡ false
AreFactsOf part (Some facts) = IsCheckedOf part facts

-- for each of these parts, at its index, the facts from its check
abbrev pub AreFound : List (List ℕ) → List (Option SliceFacts) → Type 0
AreFound parts found =
    (i : ℕ) (part : List ℕ) → slice_get parts i ≡ Some part → AreFactsOf part (slice_index_or found i None)

-- by its kind: a thin file is a slice, and a universal file is read as such, with the facts of its parts
abbrev pub IsAcceptedAs : List ℕ → AcceptedFile → Type 0
IsAcceptedAs file (Thin slice) = (kind_of file ≡ thin_kind) × (slice ≡ file)
IsAcceptedAs file (Universal universal found) =
    (is_fat (kind_of file) ≡ true) × (universal ≡ file) × AreFound (slices file) found
