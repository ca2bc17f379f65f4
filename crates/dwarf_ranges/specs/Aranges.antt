-- The unit of an address according to __debug_aranges (DWARF 5, section 6.1.2).
use Rattle.std.specs.Prelude.{ℕ, List, [], length, drop, map, slice_index, ◌==◌, ◌&&◌, ◌+◌, ◌≡◌, ◌<◌, ◌≤◌, nat_lt}
use Rattle.std.specs.Prelude.{nat_le, if◌then◌else◌, Bool, false, not, Option, Some, None, MatchOption, slice_get}
use Rattle.std.specs.BTreeMap as tree_map
use Rattle.std.specs.List.{flat_map, list_any}
use Rattle.std.specs.Option.{option_map_or}
use Rattle.std.specs.Ordering.{nat_cmp}
use Rattle.dwarf_encoding.specs.LittleEndian.{u16_le_at, u32_le_at, u64_le_at}
use Rattle.dwarf_encoding.specs.Sequences.{sequence}
use Rattle.dwarf_encoding.specs.Units.{is_64_bit, unit_at}
use Rattle.dwarf_ranges.specs.declared.arange.Arange.{Arange}

-- whether a set can be read: the 32-bit format, version 2, addresses of eight bytes, and no segments
unfoldable pub is_read : List ℕ → Bool
is_read set =
    nat_le 16 (length set) && not (is_64_bit set) && (u16_le_at set 4 == 2) && (slice_index set 10 == 8)
    && (slice_index set 11 == 0)

-- debug_info_offset, and the tuples after four bytes of padding
unfoldable pub header_of : List ℕ → Option (ℕ × List ℕ)
header_of set = if is_read set then Some (u32_le_at set 6, drop 16 set) else None

-- an address and a length, and the bytes after them; two zeros end the tuples
unfoldable pub tuple_at : List ℕ → Option ((ℕ × ℕ) × List ℕ)
tuple_at bytes =
    if nat_lt (length bytes) 16 then None
    else (if (u64_le_at bytes 0 == 0) && (u64_le_at bytes 8 == 0) then None
    else Some ((u64_le_at bytes 0, u64_le_at bytes 8), drop 16 bytes))

-- the tuples that begin the bytes, for a unit
unfoldable pub tuples_from : ℕ → List ℕ → List Arange
tuples_from unit bytes =
    map (λ t. record { debug_info_offset = unit; address = t.0; length = t.1 }) (sequence tuple_at bytes)

-- the tuples of a set
unfoldable pub tuples_of : List ℕ → List Arange
tuples_of set = option_map_or (λ h. tuples_from h.0 h.1) (header_of set) []

-- the tuples of all sets, in their order
unfoldable pub aranges_of : List ℕ → List Arange
aranges_of section = flat_map tuples_of (sequence unit_at section)

-- whether a set names the unit at an offset
abbrev pub names_unit : ℕ → List ℕ → Bool
names_unit offset set = option_map_or (λ h. h.0 == offset) (header_of set) false

-- whether one of the sets names the unit at an offset
unfoldable pub is_named : List ℕ → ℕ → Bool
is_named section offset = list_any (names_unit offset) (sequence unit_at section)

-- a tuple contains an address, in whole numbers
abbrev pub HasAddress : ℕ → Arange → Type 0
HasAddress address tuple = (tuple.address ≤ address) × (address < tuple.address + tuple.length)

-- the first tuple that contains an address, or none if no tuple does
abbrev pub IsFirstTuple : List Arange → ℕ → Option Arange → Type 0
IsFirstTuple tuples address found =
    MatchOption found
    ((i : ℕ) (tuple : Arange) → slice_get tuples i ≡ Some tuple → HasAddress address tuple → ⊥)
    (λ tuple. (i : ℕ) × (slice_get tuples i ≡ Some tuple) × HasAddress address tuple
    × ((j : ℕ) (other : Arange) → j < i → slice_get tuples j ≡ Some other → HasAddress address other → ⊥))

-- each address has its first tuple, or none
pub record AreFirstTuples (tuples : List Arange) (addresses : List ℕ) (found : tree_map.BTreeMap ℕ Arange)
    : Type 0 where
  pub each : (i : ℕ) → i < length addresses →
      IsFirstTuple tuples (slice_index addresses i) (tree_map.get nat_cmp found (slice_index addresses i))
