-- The ranges of a unit's entries, and of its first entry (DWARF 5, sections 2.17 and 3.1.1).
use Rattle.std.specs.Prelude.{ℕ, List, length, ◌*◌}
use Rattle.std.specs.Option.{option_and_then, unwrap_or}
use Rattle.dwarf_entries.specs.Entries.{EntryRecord}
use Rattle.dwarf_ranges.specs.Addresses.{AddressesRecord}
use Rattle.dwarf_ranges.specs.EntryRanges.{RangeAttributesRecord, UnitRangesRecord, address_of, entry_ranges}
use Rattle.dwarf_ranges.specs.declared.range.CodeRange.{CodeRange}
use Rattle.dwarf_source_frames.specs.DebugSections.{DebugSectionsRecord}
use Rattle.dwarf_source_frames.specs.DebugUnits.{UnitRecord, offset_or}

-- the addresses of a unit by index: its part of __debug_addr begins at DW_AT_addr_base, or after a header of eight
-- bytes
abbrev pub addresses_of : DebugSectionsRecord → UnitRecord → AddressesRecord
addresses_of sections unit =
    record { debug_addr = sections.debug_addr; addr_base = offset_or unit.first.attributes.addr_base 8 }

-- the base address of a unit: DW_AT_low_pc of its first entry, or 0
abbrev pub base_address : AddressesRecord → UnitRecord → ℕ
base_address addresses unit = unwrap_or (option_and_then (address_of addresses) unit.first.attributes.low_pc) 0

-- the sections and bases from which the ranges of a unit's entries are read: its offsets of lists begin at
-- DW_AT_rnglists_base, or after a header of twelve bytes
abbrev pub unit_ranges_of : DebugSectionsRecord → UnitRecord → UnitRangesRecord
unit_ranges_of sections unit =
    record {
      version = unit.header.version;
      debug_ranges = sections.debug_ranges;
      debug_rnglists = sections.debug_rnglists;
      rnglists_base = offset_or unit.first.attributes.rnglists_base 12;
      addresses = addresses_of sections unit;
      base = base_address (addresses_of sections unit) unit;
    }

-- DW_AT_low_pc, DW_AT_high_pc and DW_AT_ranges of an entry
abbrev pub range_attributes : EntryRecord → RangeAttributesRecord
range_attributes entry =
    record {
      low_pc = entry.attributes.low_pc;
      high_pc = entry.attributes.high_pc;
      ranges = entry.attributes.ranges;
    }

-- the largest number of entries of range lists that count for a unit's entries: four for each byte of the unit
abbrev pub entries_of_lists : UnitRecord → ℕ
entries_of_lists unit = 4 * length unit.bytes

-- the ranges of the first entry of a unit
unfoldable pub first_ranges : DebugSectionsRecord → UnitRecord → List CodeRange
first_ranges sections unit =
    entry_ranges (unit_ranges_of sections unit) (entries_of_lists unit) (range_attributes unit.first)
