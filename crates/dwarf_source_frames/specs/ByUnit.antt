-- Addresses grouped by the offsets of their units.
use Rattle.std.specs.Prelude.{ℕ, List, [], ◌∷◌, ◌≡◌, ◌<◌, ◌==◌, if◌then◌else◌, length, slice_index, slice_index_or}
use Rattle.std.specs.Prelude.{Option, Some, None}
use Rattle.std.specs.Ordering.{nat_cmp}
use Rattle.std.specs.BTreeMap as tree_map
use Rattle.dwarf_source_frames.specs.declared.unit_lists.AddressList.{AddressList}

-- the addresses of a list, if there is one
abbrev pub addresses_or_none : Option AddressList → List ℕ
addresses_or_none None = []
addresses_or_none (Some list) = list.addresses.items

-- the addresses in the group of a unit's offset
abbrev pub addresses_under : tree_map.BTreeMap ℕ AddressList → ℕ → List ℕ
addresses_under by_unit place = addresses_or_none (tree_map.get nat_cmp by_unit place)

-- an address, if this is the offset of its unit
abbrev pub placed_under : Option ℕ → ℕ → ℕ → List ℕ
placed_under None place address = []
placed_under (Some own) place address = if own == place then address ∷ [] else []

-- an address, if it has no unit
abbrev pub placed_without : Option ℕ → ℕ → List ℕ
placed_without None address = address ∷ []
placed_without (Some own) address = []

-- the address is one of the first `count`, and this is the offset of its unit, or none
abbrev pub IsPlacedWithin : ℕ → List ℕ → List (Option ℕ) → ℕ → Option ℕ → Type 0
IsPlacedWithin count addresses places address place =
    (i : ℕ) × (i < count) × (slice_index addresses i ≡ address) × (slice_index_or places i None ≡ place)

-- the address is one of them all, and this is the offset of its unit, or none
abbrev pub IsPlaced : List ℕ → List (Option ℕ) → ℕ → Option ℕ → Type 0
IsPlaced addresses places address place = IsPlacedWithin (length addresses) addresses places address place
