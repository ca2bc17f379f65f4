-- The ranges of an entry (DWARF 5, section 2.17).
use Rattle.std.specs.Prelude.{ℕ, List, [], ◌∷◌, drop, length, ◌+◌, ◌*◌, ◌%◌, ◌^◌, nat_lt, nat_le, if◌then◌else◌}
use Rattle.std.specs.Prelude.{Option, Some, None}
use Rattle.std.specs.Option.{option_and_then, option_map, option_map_or}
use Rattle.dwarf_encoding.specs.LittleEndian.{u32_le_at}
use Rattle.dwarf_encoding.specs.Values.{ValueRecord, Address, AddressIndex, Constant, SectionOffset, RangeListIndex}
use Rattle.dwarf_ranges.specs.Addresses.{AddressesRecord, address_at}
use Rattle.dwarf_ranges.specs.ListEntries.{debug_ranges_entry_at, rnglists_entry_at}
use Rattle.dwarf_ranges.specs.Lists.{left_after, ranges_within}
use Rattle.dwarf_ranges.specs.declared.range.CodeRange.{CodeRange}
use Rattle.dwarf_ranges.specs.declared.range_entry.RangeEntry.{RangeEntry}

-- the sections and bases for the ranges of a unit's entries: its version, the sections, DW_AT_rnglists_base, and the
-- base address, which is the low_pc of the unit's first entry
pub record UnitRangesRecord : Type 0 where
  pub version : ℕ
  pub debug_ranges : List ℕ
  pub debug_rnglists : List ℕ
  pub rnglists_base : ℕ
  pub addresses : AddressesRecord
  pub base : ℕ

-- DW_AT_low_pc, DW_AT_high_pc and DW_AT_ranges of an entry
pub record RangeAttributesRecord : Type 0 where
  pub low_pc : Option ValueRecord
  pub high_pc : Option ValueRecord
  pub ranges : Option ValueRecord

-- the address that a value names
abbrev pub address_of : AddressesRecord → ValueRecord → Option ℕ
address_of addresses (Address n) = Some n
address_of addresses (AddressIndex n) = address_at addresses n
address_of addresses _ = None

-- the end of a range: an address, or the number of its addresses
abbrev pub end_of : AddressesRecord → ℕ → ValueRecord → Option ℕ
end_of addresses low (Constant n) = Some ((low + n) % 2 ^ 64)
end_of addresses low (Address n) = Some n
end_of addresses low (AddressIndex n) = address_at addresses n
end_of addresses low _ = None

-- the offset of the list at an index: the unit's base, plus the four-byte number at this index of the part of
-- __debug_rnglists that begins at the base
abbrev pub listed_offset : List ℕ → ℕ → ℕ → Option ℕ
listed_offset debug_rnglists base index =
    if nat_le (base + 4 * index + 4) (length debug_rnglists)
    then Some (base + u32_le_at debug_rnglists (base + 4 * index))
    else None

-- the offset of the range list that a value names; before version 4 a constant is an offset too
abbrev pub list_offset : UnitRangesRecord → ValueRecord → Option ℕ
list_offset unit (SectionOffset n) = Some n
list_offset unit (Constant n) = if nat_lt unit.version 4 then Some n else None
list_offset unit (RangeListIndex n) = listed_offset unit.debug_rnglists unit.rnglists_base n
list_offset unit _ = None

-- the range list at an offset: the reader of its entries, and the bytes from its first entry on
abbrev pub list_at : UnitRangesRecord → ℕ → (List ℕ → Option (RangeEntry × List ℕ)) × List ℕ
list_at unit offset =
    if nat_lt unit.version 5 then (λ b. debug_ranges_entry_at b, drop offset unit.debug_ranges)
    else (λ b. rnglists_entry_at unit.addresses b, drop offset unit.debug_rnglists)

-- the range from DW_AT_low_pc to DW_AT_high_pc
abbrev pub low_to_high : UnitRangesRecord → RangeAttributesRecord → Option CodeRange
low_to_high unit entry =
    option_and_then
    (λ low. option_map
    (λ high. record { low = low; high = high })
    (option_and_then (end_of unit.addresses low) entry.high_pc))
    (option_and_then (address_of unit.addresses) entry.low_pc)

-- the ranges of the list that DW_AT_ranges names, of which at most `left` entries are read; none without a list
abbrev pub listed_ranges : UnitRangesRecord → ℕ → Option ℕ → List CodeRange
listed_ranges unit left None = []
listed_ranges unit left (Some offset) =
    ranges_within (list_at unit offset).0 left unit.base (list_at unit offset).1

-- the number of entries that are left of `left` after that list
abbrev pub left_after_list : UnitRangesRecord → ℕ → Option ℕ → ℕ
left_after_list unit left None = left
left_after_list unit left (Some offset) = left_after (list_at unit offset).0 left (list_at unit offset).1

-- the ranges of an entry: from low_pc to high_pc if it has both, else those of the list that DW_AT_ranges names, of
-- which at most `left` entries count
abbrev pub entry_ranges : UnitRangesRecord → ℕ → RangeAttributesRecord → List CodeRange
entry_ranges unit left entry =
    option_map_or
    (λ range. range ∷ [])
    (low_to_high unit entry)
    (listed_ranges unit left (option_and_then (list_offset unit) entry.ranges))

-- the number of entries that are left of `left` after the list of that entry
abbrev pub left_after_entry : UnitRangesRecord → ℕ → RangeAttributesRecord → ℕ
left_after_entry unit left entry =
    option_map_or
    (λ range. left)
    (low_to_high unit entry)
    (left_after_list unit left (option_and_then (list_offset unit) entry.ranges))
