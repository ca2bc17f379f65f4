-- A file is accepted or has one fault.
use Rattle.std.proofs.Common.{◌≡◌, ◌≢◌, ℕ, suc, true, List, [], ◌∷◌, Some, slice_get, take, refl, ap, subst, ◌⊎◌, inl, inr}
use Rattle.std.proofs.lemmas.Bool.{cases_Bool, cases_order}
use Rattle.std.specs.Prelude.{All}
use Rattle.std.proofs.lemmas.List.Elements.{All-nil, All-cons}
use Rattle.fat_slices.specs.Kind.{kind_of, is_fat}
use Rattle.fat_slices.specs.FatFault.{IsFatFault, IsUniversal}
use Rattle.fat_slices.specs.declared.fat_fault.FatFault.{FatFault}
use Rattle.fat_slices.specs.declared.file_kind.FileKind.{FileKind}
use Rattle.fat_slices.specs.declared.file_kind.FileKind.TheVariants.{Thin, Universal, Universal64, Other}
use Rattle.archive_core.specs.Valid.{IsValid, IsSliceFault}
use Rattle.archive_core.specs.declared.faults.SliceFault.{SliceFault}
use Rattle.archive_image_admission.specs.File.{is_admissible, parts, admissible, HasParts, IsAcceptedFile, IsRefusedPart, IsFirstRefused, IsTakeFault}
use Rattle.archive_image_admission.specs.declared.fault.TakeFault.{TakeFault}
use Rattle.archive_image_admission.specs.declared.fault.TakeFault.TheVariants.{Unrecognised, Fat, Slice, NothingToAdmit, OutOfMemory}
use Rattle.archive_image_admission.proofs.FileKinds.{not_other, has_parts_thin, has_parts_fat}
use Rattle.archive_image_admission.proofs.Files.{NoneFaulty, IsGood, all_valid, kept_is, one_kept, refused_by, there}

-- the first part that is refused
record HasRefused (xs : List (List ℕ)) : Type 0 where
  at : ℕ
  x : List ℕ
  why : SliceFault
  is : slice_get xs at ≡ Some x
  begins : is_admissible x ≡ true
  refused : IsSliceFault x why
  before : All IsGood (take at xs)

module _ (decide : (bytes : List ℕ) → IsValid bytes ⊎ ((f : SliceFault) × IsSliceFault bytes f)) where
  refused_behind : (x : List ℕ) (xs : List (List ℕ)) → IsGood x → All IsGood xs ⊎ HasRefused xs → All IsGood (x ∷ xs) ⊎ HasRefused (x ∷ xs)
  refused_behind x xs here (inl rest) = inl (All-cons IsGood x xs here rest)
  refused_behind x xs here (inr r) = inr (record {
    at = suc r.at;
    x = r.x;
    why = r.why;
    is = r.is;
    begins = r.begins;
    refused = r.refused;
    before = All-cons IsGood x (take r.at xs) here r.before;
  })

  good_or_refused : (x : List ℕ) → IsGood x ⊎ ((is_admissible x ≡ true) × (f : SliceFault) × IsSliceFault x f)
  good_or_refused x = elim (cases_Bool (is_admissible x)) [
    | inr out ↦ inl (λ begins. cc)
    | inl begins ↦ elim (decide x) [ inl valid ↦ inl (λ _. valid) | inr wrong ↦ inr (begins, wrong.0, wrong.1) ]
  ]

  valid_or_refused : (xs : List (List ℕ)) → All IsGood xs ⊎ HasRefused xs
  valid_or_refused [] = inl (All-nil IsGood)
  valid_or_refused (x ∷ xs) = elim (good_or_refused x) [
    | inl good ↦ refused_behind x xs good (valid_or_refused xs)
    | inr (begins, f, refused) ↦ inr (record { at = 0; x = x; why = f; is = refl; begins = begins; refused = refused; before = All-nil IsGood })
  ]

abbrev HasAnswer : List ℕ → Type 0
HasAnswer file = IsAcceptedFile file ⊎ ((f : TakeFault) × (f ≢ OutOfMemory) × IsTakeFault file f)

module _ (decide : (bytes : List ℕ) → IsValid bytes ⊎ ((f : SliceFault) × IsSliceFault bytes f))
    (decide_fat : (file : List ℕ) → IsUniversal file ⊎ ((f : FatFault) × IsFatFault file f))
    (sound : NoneFaulty) where
  of_parts : (file : List ℕ) → HasParts file → HasAnswer file
  of_parts file has = elim (valid_or_refused decide (parts file)) [
    | inr r ↦ inr (Slice r.at r.why, (λ e. cc), refused_by file r.at r.x r.why sound has r.before r.is r.begins r.refused)
    | inl valid ↦ go (admissible file) refl valid
  ]
    where
      go : (kept : List (List ℕ)) → admissible file ≡ kept → All IsGood (parts file) → HasAnswer file
      go [] none valid = inr (NothingToAdmit, (λ e. cc), (has, none))
      go (x ∷ kept) some valid =
          inl (record { parts_are = has; valid = all_valid (parts file) valid; some = λ none. cc })

  of_fat : (file : List ℕ) → is_fat (kind_of file) ≡ true → HasAnswer file
  of_fat file fat = elim (decide_fat file) [
    | inl universal ↦ of_parts file (has_parts_fat file fat universal)
    | inr wrong ↦ inr (Fat wrong.0, (λ e. cc), (fat, wrong.1))
  ]

  of_kind : (file : List ℕ) (kind : FileKind) → kind_of file ≡ kind → HasAnswer file
  of_kind file Other e = inr (Unrecognised, (λ e. cc), e)
  of_kind file Thin e = of_parts file (has_parts_thin file e)
  of_kind file Universal e = of_fat file (ap is_fat e)
  of_kind file Universal64 e = of_fat file (ap is_fat e)

  pub accepted_or_fault : (file : List ℕ) → HasAnswer file
  accepted_or_fault file = of_kind file (kind_of file) refl

module _ (sound : NoneFaulty) (one_fault : (bytes : List ℕ) (f g : SliceFault) → IsSliceFault bytes f → IsSliceFault bytes g → f ≡ g)
    (one_fat : (file : List ℕ) (f g : FatFault) → IsFatFault file f → IsFatFault file g → f ≡ g)
    (no_fat : (file : List ℕ) (f : FatFault) → IsUniversal file → IsFatFault file f → ⊥) (file : List ℕ) where
  not_nothing : (i : ℕ) (why : SliceFault) → IsRefusedPart file i why → admissible file ≡ [] → ⊥
  not_nothing i why refused none = one_kept (parts file) (refused.part, there (parts file) i refused.part refused.is, refused.begins) none

  not_accepted : (i : ℕ) (why : SliceFault) → IsRefusedPart file i why → IsAcceptedFile file → ⊥
  not_accepted i why refused accepted = sound refused.part why
      (kept_is IsValid (parts file) i refused.part accepted.valid refused.is refused.begins) refused.refused

  not_fat : (f : FatFault) → (is_fat (kind_of file) ≡ true) × IsFatFault file f → HasParts file → ⊥
  not_fat f wrong has = no_fat file f (has.table wrong.0) wrong.1

  same_place : (i j : ℕ) (f g : SliceFault) → i ≡ j → IsRefusedPart file i f → IsRefusedPart file j g → Slice i f ≡ Slice j g
  same_place i j f g e p q =
      let same : q.part ≡ p.part = cc (e, p.is, q.is) in
      let why : f ≡ g = one_fault p.part f g p.refused (subst (λ (x : List ℕ). IsSliceFault x g) same q.refused) in
      cc

  one_slice : (i j : ℕ) (f g : SliceFault) → IsFirstRefused file i f → IsFirstRefused file j g → Slice i f ≡ Slice j g
  one_slice i j f g p q = elim (cases_order i j) [
    | inl same ↦ same_place i j f g same p.here q.here
    | inr (inl low) ↦ absurd (q.first i f low p.here)
    | inr (inr low) ↦ absurd (p.first j g low q.here)
  ]

  pub one_take_fault : (f g : TakeFault) → IsTakeFault file f → IsTakeFault file g → f ≡ g
  one_take_fault Unrecognised Unrecognised p q = refl
  one_take_fault Unrecognised (Fat _) p q = absurd (not_other (kind_of file) q.0 p)
  one_take_fault Unrecognised (Slice _ _) p q = absurd (q.0.kind p)
  one_take_fault Unrecognised NothingToAdmit p q = absurd (q.0.kind p)
  one_take_fault Unrecognised OutOfMemory p q = absurd (q.parts_are.kind p)
  one_take_fault (Fat _) Unrecognised p q = absurd (not_other (kind_of file) p.0 q)
  one_take_fault (Fat f) (Fat g) p q = ap Fat (one_fat file f g p.1 q.1)
  one_take_fault (Fat f) (Slice _ _) p q = absurd (not_fat f p q.0)
  one_take_fault (Fat f) NothingToAdmit p q = absurd (not_fat f p q.0)
  one_take_fault (Fat f) OutOfMemory p q = absurd (not_fat f p q.parts_are)
  one_take_fault (Slice _ _) Unrecognised p q = absurd (p.0.kind q)
  one_take_fault (Slice _ _) (Fat g) p q = absurd (not_fat g q p.0)
  one_take_fault (Slice i f) (Slice j g) p q = one_slice i j f g p.1 q.1
  one_take_fault (Slice i f) NothingToAdmit p q = absurd (not_nothing i f p.1.here q.1)
  one_take_fault (Slice i f) OutOfMemory p q = absurd (not_accepted i f p.1.here q)
  one_take_fault NothingToAdmit Unrecognised p q = absurd (p.0.kind q)
  one_take_fault NothingToAdmit (Fat g) p q = absurd (not_fat g q p.0)
  one_take_fault NothingToAdmit (Slice j g) p q = absurd (not_nothing j g q.1.here p.1)
  one_take_fault NothingToAdmit NothingToAdmit p q = refl
  one_take_fault NothingToAdmit OutOfMemory p q = absurd (q.some p.1)
  one_take_fault OutOfMemory Unrecognised p q = absurd (p.parts_are.kind q)
  one_take_fault OutOfMemory (Fat g) p q = absurd (not_fat g q p.parts_are)
  one_take_fault OutOfMemory (Slice j g) p q = absurd (not_accepted j g q.1.here p)
  one_take_fault OutOfMemory NothingToAdmit p q = absurd (p.some q.1)
  one_take_fault OutOfMemory OutOfMemory p q = refl
