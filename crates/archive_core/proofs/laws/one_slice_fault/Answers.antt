use Rattle.std.proofs.Common.{◌≡◌, ℕ, List, ap, inl, inr}
use Rattle.std.specs.Prelude.{◌⊎◌}
use Rattle.macho_image.specs.Fault.{IsImage, IsImageFault}
use Rattle.macho_image.specs.declared.fault.ImageFault.{ImageFault}
use Rattle.macho_symbols.specs.Fault.{HasSymbols, IsSymbolFault}
use Rattle.macho_symbols.specs.declared.fault.SymbolFault.{SymbolFault}
use Rattle.archive_core.specs.Valid.{IsValid, IsSliceFault}
use Rattle.archive_core.specs.declared.faults.SliceFault.{SliceFault}
use Rattle.archive_core.specs.declared.faults.SliceFault.TheVariants.{Image, Symbols}
use Rattle.archive_core.proofs.laws.one_slice_fault.Goals as goal

module _ (image_some : (bytes : List ℕ) → IsImage bytes ⊎ ((f : ImageFault) × IsImageFault bytes f))
    (image_one : (bytes : List ℕ) (f g : ImageFault) → IsImageFault bytes f → IsImageFault bytes g → f ≡ g)
    (image_none : (bytes : List ℕ) (f : ImageFault) → IsImage bytes → IsImageFault bytes f → ⊥)
    (symbols_some : (image : List ℕ) → HasSymbols image ⊎ ((f : SymbolFault) × IsSymbolFault image f))
    (symbols_one : (image : List ℕ) (f g : SymbolFault) → IsSymbolFault image f → IsSymbolFault image g → f ≡ g)
    (symbols_none : (image : List ℕ) (f : SymbolFault) → HasSymbols image → IsSymbolFault image f → ⊥) where
  some : (bytes : List ℕ) → IsImage bytes ⊎ ((f : ImageFault) × IsImageFault bytes f) → IsValid bytes ⊎ ((f : SliceFault) × IsSliceFault bytes f)
  some bytes (inl image) = elim (symbols_some bytes) [
    | inl symbols ↦ inl (record { image = image; symbols = symbols })
    | inr faulty ↦ inr (Symbols faulty.0, (image, faulty.1))
  ]
  some bytes (inr faulty) = inr (Image faulty.0, faulty.1)

  one : (bytes : List ℕ) (f g : SliceFault) → IsSliceFault bytes f → IsSliceFault bytes g → f ≡ g
  one bytes (Image f) (Image g) a b = ap Image (image_one bytes f g a b)
  one bytes (Image f) (Symbols g) a b = absurd (image_none bytes f b.0 a)
  one bytes (Symbols f) (Image g) a b = absurd (image_none bytes g a.0 b)
  one bytes (Symbols f) (Symbols g) a b = ap Symbols (symbols_one bytes f g a.1 b.1)

  none : (bytes : List ℕ) (f : SliceFault) → IsValid bytes → IsSliceFault bytes f → ⊥
  none bytes (Image f) valid a = image_none bytes f valid.image a
  none bytes (Symbols f) valid a = symbols_none bytes f valid.symbols a.1

pub returns : goal.returns
returns c = record {
  some = λ bytes. some c.one_fault.ensures.some c.one_fault.ensures.one c.one_fault.ensures.none
      c.one_symbol_fault.ensures.some c.one_symbol_fault.ensures.one c.one_symbol_fault.ensures.none bytes
      (c.one_fault.ensures.some bytes);
  one = one c.one_fault.ensures.some c.one_fault.ensures.one c.one_fault.ensures.none c.one_symbol_fault.ensures.some
      c.one_symbol_fault.ensures.one c.one_symbol_fault.ensures.none;
  none = none c.one_fault.ensures.some c.one_fault.ensures.one c.one_fault.ensures.none c.one_symbol_fault.ensures.some
      c.one_symbol_fault.ensures.one c.one_symbol_fault.ensures.none;
}
