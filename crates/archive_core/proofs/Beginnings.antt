-- With what a slice begins.
use Rattle.std.proofs.Common.{◌≡◌, ℕ, Bool, true, List, [], ◌∷◌, Option, Some, None, arith}
use Rattle.std.specs.Prelude.{nat_eq, if◌then◌else◌}
use Rattle.std.specs.List.{starts_with}
use Rattle.macho_image.specs.declared.fault.ImageFault.{ImageFault}
use Rattle.macho_image.specs.declared.fault.ImageFault.TheVariants.{NotMachO64, TooLarge}
use Rattle.archive_core.specs.Valid.{IsValid}

past_magic : (a b : Bool) (rest : Option ImageFault) → (if a then Some TooLarge else if b then rest else Some NotMachO64) ≡ None → b ≡ true
past_magic a b rest e = grind arith

-- with MH_MAGIC_64, little-endian
pub slice_begins : (bytes : List ℕ) → IsValid bytes → starts_with nat_eq bytes (0xcf ∷ 0xfa ∷ 0xed ∷ 0xfe ∷ []) ≡ true
slice_begins bytes valid = past_magic _ _ _ valid.image.header
