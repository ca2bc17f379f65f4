-- The sections and bases of ranges, as the definitions have them.
use Rattle.std.specs.Option.{option_map}
use Rattle.dwarf_encoding.specs.Views.{value_view}
use Rattle.dwarf_ranges.specs.EntryRanges.{RangeAttributesRecord, UnitRangesRecord}
use Rattle.dwarf_ranges.specs.Views.{addresses_view}
use Rattle.dwarf_ranges.specs.declared.unit_ranges.RangeAttributes.{RangeAttributes}
use Rattle.dwarf_ranges.specs.declared.unit_ranges.UnitRanges.{UnitRanges}

-- a unit, without the addresses of its sections in memory
abbrev pub unit_view : UnitRanges → UnitRangesRecord
unit_view u =
    record {
      version = u.version;
      debug_ranges = u.debug_ranges.now;
      debug_rnglists = u.debug_rnglists.now;
      rnglists_base = u.rnglists_base;
      addresses = addresses_view u.addresses;
      base = u.base;
    }

-- attributes, without the addresses of their texts in memory
abbrev pub attributes_view : RangeAttributes → RangeAttributesRecord
attributes_view a =
    record {
      low_pc = option_map value_view a.low_pc;
      high_pc = option_map value_view a.high_pc;
      ranges = option_map value_view a.ranges;
    }
