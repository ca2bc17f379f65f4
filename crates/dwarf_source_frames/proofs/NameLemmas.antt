-- Steps on the way to a name.
use Rattle.std.proofs.Common.{◌≡◌, ℕ, zero, suc, ◌-◌, ◌<◌, List, Option, Some, None, refl, subst, arith}
use Rattle.std.specs.Option.{option_map, option_or}
use Rattle.dwarf_source_frames.specs.DebugSections.{DebugSectionsRecord}
use Rattle.dwarf_source_frames.specs.DebugUnits.{UnitEntryRecord}
use Rattle.dwarf_source_frames.specs.Names.{text_in, linkage_name, IsOrigin, IsNameWithin}

-- one of two, or what is made of it
pub mapped_or : {A B : Type 0} (f : A → B) (a b : Option A) → option_map f (option_or a b) ≡ option_or (option_map f a) (option_map f b)
mapped_or f None b = refl
mapped_or f (Some x) b = refl

-- one that leads on
pub name_next : (count room left : ℕ) (s : DebugSectionsRecord) (e o : UnitEntryRecord) (before next name : Option (List ℕ))
    → 0 < count → linkage_name s e ≡ None → IsOrigin room s e (Some (o, left))
    → next ≡ option_or before (text_in s e e.entry.attributes.name) → IsNameWithin (count - 1) left s o next name → IsNameWithin count room s e before name
name_next zero room left s e o before next name some none origin same rest = absurd (omega arith)
name_next (suc count) room left s e o before next name some none origin same rest =
    let less : suc count - 1 ≡ count = omega arith in
    let here : IsNameWithin count left s o next name = subst (λ (n : ℕ). IsNameWithin n left s o next name) less rest in
    rw none (Some (o, left), origin, subst (λ (b : Option (List ℕ)). IsNameWithin count left s o b name) same here)
