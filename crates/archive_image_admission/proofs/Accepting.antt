-- What the checks of a thin file and of a universal one find.
use Rattle.std.proofs.Common.{◌≡◌, ℕ, Bool, true, false, List, [], length, Some, slice_get, take, refl, sym, ap, ◌∙◌, subst, arith}
use Rattle.std.specs.Prelude.{All}
use Rattle.std.proofs.lemmas.List.{take_all}
use Rattle.std.proofs.lemmas.List.Elements.{All-nil, All-cons}
use Rattle.fat_slices.specs.Kind.{kind_of, is_fat}
use Rattle.fat_slices.specs.Slices.{slices}
use Rattle.fat_slices.specs.FatFault.{IsUniversal}
use Rattle.fat_slices.specs.declared.file_kind.FileKind.TheVariants.{Thin}
use Rattle.archive_core.specs.Valid.{IsValid, IsSliceFault}
use Rattle.archive_core.specs.declared.faults.SliceFault.{SliceFault}
use Rattle.archive_image_admission.specs.File.{is_admissible, parts, IsAcceptedFile, IsTakeFault}
use Rattle.archive_image_admission.specs.declared.fault.TakeFault.{TakeFault}
use Rattle.archive_image_admission.specs.declared.fault.TakeFault.TheVariants.{Slice, NothingToAdmit}
use Rattle.archive_image_admission.proofs.FileKinds.{thin_begins, parts_thin, parts_fat, has_parts_thin, has_parts_fat}
use Rattle.archive_image_admission.proofs.Files.{NoneFaulty, IsGood, IsOut, HasOne, IsChecked, accepted_by, refused_by, nothing_by}

pub accepted_thin : (file : List ℕ) → kind_of file ≡ Thin → IsValid file → IsAcceptedFile file
accepted_thin file e valid =
    accepted_by file (has_parts_thin file e)
    (rw (parts_thin file e) (All-cons IsGood file [] (λ _. valid) (All-nil IsGood)))
    (rw (parts_thin file e) (file, (0, omega arith, refl), sym (thin_begins file e)))

pub refused_thin : (file : List ℕ) (why : SliceFault) → NoneFaulty → kind_of file ≡ Thin → IsSliceFault file why → IsTakeFault file (Slice 0 why)
refused_thin file why sound e wrong =
    refused_by file 0 file why sound (has_parts_thin file e) (All-nil IsGood)
    (ap (λ (xs : List (List ℕ)). slice_get xs 0) (parts_thin file e)) (sym (thin_begins file e)) wrong

-- of a universal file u that has the bytes of the file
module _ (file u : List ℕ) (fat : is_fat (kind_of file) ≡ true) (universal : IsUniversal file) (bytes : u ≡ file) where
  same : slices u ≡ parts file
  same = ap slices bytes ∙ sym (parts_fat file fat)

  all_taken : (P : List ℕ → Type 0) (n : ℕ) → n ≡ length (slices u) → All P (take n (slices u)) → All P (parts file)
  all_taken P n all before = subst (All P) (take_all n (slices u) (omega arith) ∙ same) before

  pub accepted_fat : (n : ℕ) (found : Bool) → n ≡ length (slices u) → found ≡ true → IsChecked (slices u) n found → IsAcceptedFile file
  accepted_fat n found all is checked =
      accepted_by file (has_parts_fat file fat universal) (all_taken IsGood n all checked.valid)
      (subst HasOne same (checked.some is))

  pub nothing_fat : (n : ℕ) (found : Bool) → n ≡ length (slices u) → found ≡ false → IsChecked (slices u) n found → IsTakeFault file NothingToAdmit
  nothing_fat n found all is checked =
      nothing_by file (has_parts_fat file fat universal) (all_taken IsOut n all (checked.none is))

  pub refused_fat : (i : ℕ) (x : List ℕ) (found : Bool) (fault : TakeFault) → NoneFaulty → IsChecked (slices u) i found → slice_get (slices u) i ≡ Some x
      → (why : SliceFault) × (fault ≡ Slice i why) × (is_admissible x ≡ true) × IsSliceFault x why → IsTakeFault file fault
  refused_fat i x found fault sound checked is (why, fault_is, begins, wrong) =
      subst (IsTakeFault file) (sym fault_is)
      (refused_by file i x why sound (has_parts_fat file fat universal)
      (subst (λ (xs : List (List ℕ)). All IsGood (take i xs)) same checked.valid)
      (ap (λ (xs : List (List ℕ)). slice_get xs i) (sym same) ∙ is) begins wrong)
