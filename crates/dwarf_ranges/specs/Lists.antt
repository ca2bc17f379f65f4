-- Range lists (DWARF 5, section 2.17.3).
use Rattle.std.specs.Prelude.{ℕ, zero, suc, Bool, true, false, if◌then◌else◌, List, [], ◌∷◌, ◌++◌, ◌+◌, ◌%◌, ◌^◌}
use Rattle.std.specs.Prelude.{◌&&◌, nat_le, nat_lt, Option}
use Rattle.std.specs.List.{list_any}
use Rattle.std.specs.Option.{option_map_or}
use Rattle.dwarf_ranges.specs.declared.range_entry.RangeEntry.{RangeEntry}
use Rattle.dwarf_ranges.specs.declared.range_entry.RangeEntry.TheVariants.{EndOfList, BaseAddress, OffsetPair, StartEnd}
use Rattle.dwarf_ranges.specs.declared.range_entry.RangeEntry.TheVariants.{NoRange}
use Rattle.dwarf_ranges.specs.declared.range.CodeRange.{CodeRange}

-- an offset from a base address
abbrev pub onto_base : ℕ → ℕ → ℕ
onto_base base offset = (base + offset) % 2 ^ 64

-- the range of an entry, if it has one
abbrev pub range_of : ℕ → RangeEntry → List CodeRange
range_of base EndOfList = []
range_of base (BaseAddress b) = []
range_of base (OffsetPair begin end) = record { low = onto_base base begin; high = onto_base base end } ∷ []
range_of base (StartEnd start end) = record { low = start; high = end } ∷ []
range_of base NoRange = []

-- the base address after an entry
abbrev pub base_after : ℕ → RangeEntry → ℕ
base_after base (BaseAddress b) = b
base_after base EndOfList = base
base_after base (OffsetPair begin end) = base
base_after base (StartEnd start end) = base
base_after base NoRange = base

-- whether an entry ends the list
abbrev pub is_end : RangeEntry → Bool
is_end EndOfList = true
is_end (BaseAddress b) = false
is_end (OffsetPair begin end) = false
is_end (StartEnd start end) = false
is_end NoRange = false

-- the ranges of a list up to its end or the first entry that cannot be read, from at most `left` entries; `entry` reads
-- the entry that begins the bytes, and `base` is the base address of their unit
unfoldable pub ranges_within : (List ℕ → Option (RangeEntry × List ℕ)) → ℕ → ℕ → List ℕ → List CodeRange
ranges_within entry zero base bytes = []
ranges_within entry (suc left) base bytes =
    option_map_or
    (λ x. if is_end x.0 then [] else range_of base x.0 ++ ranges_within entry left (base_after base x.0) x.1)
    (entry bytes) []

-- the number of entries that are left of `left` after a list
unfoldable pub left_after : (List ℕ → Option (RangeEntry × List ℕ)) → ℕ → List ℕ → ℕ
left_after entry zero bytes = 0
left_after entry (suc left) bytes =
    option_map_or (λ x. if is_end x.0 then suc left else left_after entry left x.1) (entry bytes) (suc left)

-- whether one of these ranges contains an address
abbrev pub in_ranges : ℕ → List CodeRange → Bool
in_ranges address ranges = list_any (λ r. nat_le r.low address && nat_lt address r.high) ranges
