-- What the kind of a file says of its first bytes and of its parts.
use Rattle.std.proofs.Common.{◌≡◌, ◌≢◌, ℕ, Bool, true, false, List, [], ◌∷◌, refl, sym, ap, arith}
use Rattle.std.specs.Prelude.{◌&&◌, nat_eq, if◌then◌else◌}
use Rattle.std.proofs.lemmas.Bool.{false_from_ne_true}
use Rattle.std.proofs.lemmas.Bool.Decides.{nat_tests}
use Rattle.fat_slices.specs.Kind.{kind_of, is_fat}
use Rattle.fat_slices.specs.Slices.{slices}
use Rattle.fat_slices.specs.FatFault.{IsUniversal}
use Rattle.fat_slices.specs.declared.file_kind.FileKind.{FileKind}
use Rattle.fat_slices.specs.declared.file_kind.FileKind.TheVariants.{Thin, Universal, Universal64, Other}
use Rattle.archive_image_admission.specs.File.{is_admissible, parts, parts_of, HasParts}

-- a file does not begin in two ways
not_both : (x : ℕ) (r s : Bool) → (nat_eq 0xcf x && r) ≡ true → (nat_eq 0xca x && s) ≡ false
not_both x r s h = grind (arith, nat_tests)

thin_by : (a b c : Bool) → (if a then Universal else if b then Universal64 else if c then Thin else Other) ≡ Thin → true ≡ c
thin_by a b c e = grind arith

by_thin : (a b c : Bool) → a ≡ false → b ≡ false → c ≡ true → (if a then Universal else if b then Universal64 else if c then Thin else Other) ≡ Thin
by_thin a b c x y z = rw (x, y, z) refl

pub thin_begins : (file : List ℕ) → kind_of file ≡ Thin → true ≡ is_admissible file
unfolding kind_of
thin_begins file e = thin_by _ _ _ e

pub begins_thin : (file : List ℕ) → is_admissible file ≡ true → kind_of file ≡ Thin
unfolding kind_of
begins_thin [] e = cc
begins_thin (x ∷ xs) e = by_thin _ _ _ (not_both x _ _ e) (not_both x _ _ e) e

pub other_begins : (file : List ℕ) → kind_of file ≢ Thin → false ≡ is_admissible file
other_begins file other = sym (false_from_ne_true _ (λ e. other (begins_thin file e)))

pub parts_thin : (file : List ℕ) → kind_of file ≡ Thin → parts file ≡ file ∷ []
unfolding parts
parts_thin file e = ap (λ (k : FileKind). parts_of k file) e

slices_by : (k : FileKind) (file : List ℕ) → is_fat k ≡ true → parts_of k file ≡ slices file
slices_by k file e = grind arith

pub parts_fat : (file : List ℕ) → is_fat (kind_of file) ≡ true → parts file ≡ slices file
unfolding parts
parts_fat file e = slices_by (kind_of file) file e

pub not_other : (k : FileKind) → is_fat k ≡ true → k ≢ Other
not_other k e w = grind arith

pub has_parts_thin : (file : List ℕ) → kind_of file ≡ Thin → HasParts file
has_parts_thin file e = record { kind = λ w. cc; table = λ h. let fat : is_fat Thin ≡ true = rw e at h in absurd (cc) }

pub has_parts_fat : (file : List ℕ) → is_fat (kind_of file) ≡ true → IsUniversal file → HasParts file
has_parts_fat file e sound = record { kind = not_other (kind_of file) e; table = λ h. sound }
