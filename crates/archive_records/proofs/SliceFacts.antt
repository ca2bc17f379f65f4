-- What is known of slices and their faults.
use Rattle.std.proofs.Common.{◌≡◌, ℕ, ◌^◌, ◌<◌, List, length, Option, Some, None, refl, ap, inl, inr, ◌⊎◌}
use Rattle.macho_image.specs.Fault.{IsImage}
use Rattle.macho_image.proofs.Existence.{image_or_fault}
use Rattle.macho_image.proofs.FaultLemmas.{one_image_fault, no_image_fault}
use Rattle.macho_image.proofs.Told.{length-image}
use Rattle.macho_symbols.specs.Fault.{symbol_fault}
use Rattle.macho_symbols.specs.declared.fault.SymbolFault.{SymbolFault}
use Rattle.archive_core.specs.Valid.{IsValid, IsSliceFault}
use Rattle.archive_core.specs.declared.faults.SliceFault.{SliceFault}
use Rattle.archive_core.specs.declared.faults.SliceFault.TheVariants.{Image, Symbols}

pub short_slice : (bytes : List ℕ) → IsValid bytes → length bytes < 2 ^ 32
short_slice bytes valid = length-image bytes valid.image

-- a slice has no fault
pub no_slice_fault : (bytes : List ℕ) (f : SliceFault) → IsValid bytes → IsSliceFault bytes f → ⊥
no_slice_fault bytes (Image f) valid fault = no_image_fault bytes f valid.image fault
no_slice_fault bytes (Symbols f) valid fault = cc (valid.symbols.fine, fault.1)

-- other bytes have one
pub one_slice_fault : (bytes : List ℕ) (f g : SliceFault) → IsSliceFault bytes f → IsSliceFault bytes g → f ≡ g
one_slice_fault bytes (Image f) (Image g) a b = ap Image (one_image_fault bytes f g a b)
one_slice_fault bytes (Image f) (Symbols g) a b = absurd (no_image_fault bytes f b.0 a)
one_slice_fault bytes (Symbols f) (Image g) a b = absurd (no_image_fault bytes g a.0 b)
one_slice_fault bytes (Symbols f) (Symbols g) a b = cc (a.1, b.1)

by_symbols : (bytes : List ℕ) (fault : Option SymbolFault) → symbol_fault bytes ≡ fault → IsImage bytes → IsValid bytes
    ⊎ ((f : SliceFault) × IsSliceFault bytes f)
by_symbols bytes None is image = inl (record { image = image; symbols = record { fine = is } })
by_symbols bytes (Some f) is image = inr (Symbols f, (image, is))

-- bytes are a slice or have a fault
pub slice_or_fault : (bytes : List ℕ) → IsValid bytes ⊎ ((f : SliceFault) × IsSliceFault bytes f)
slice_or_fault bytes = elim (image_or_fault bytes) [ inl image ↦ by_symbols bytes (symbol_fault bytes) refl image | inr fault ↦ inr (Image fault.0, fault.1) ]
