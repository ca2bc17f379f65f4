-- The headers of units of __debug_info (DWARF 5, section 7.5.1), of the versions 2 to 5 in the 32-bit format.
use Rattle.std.specs.Prelude.{ℕ, List, ◌==◌, ◌&&◌, ◌||◌, nat_le, nat_lt, length, slice_index, if◌then◌else◌, Option}
use Rattle.std.specs.Prelude.{Some, None}
use Rattle.dwarf_encoding.specs.LittleEndian.{u16_le_at, u32_le_at}
use Rattle.dwarf_encoding.specs.Units.{is_64_bit}
use Rattle.dwarf_entries.specs.declared.unit_header.UnitHeader.{UnitHeader}

-- version 5: unit_type at 6, address_size at 7, debug_abbrev_offset at 8; DW_UT_compile is 1 and DW_UT_partial 3
abbrev pub header_of_version_5 : List ℕ → Option UnitHeader
header_of_version_5 unit =
    if nat_le 12 (length unit) && (slice_index unit 7 == 8) && ((slice_index unit 6 == 1) || (slice_index unit 6 == 3))
    then Some (record { version = 5; debug_abbrev_offset = u32_le_at unit 8; entries_offset = 12 })
    else None

-- versions 2 to 4: debug_abbrev_offset at 6, address_size at 10
abbrev pub header_to_version_4 : ℕ → List ℕ → Option UnitHeader
header_to_version_4 version unit =
    if nat_le 11 (length unit) && (slice_index unit 10 == 8) && nat_le 2 version && nat_le version 4
    then Some (record { version = version; debug_abbrev_offset = u32_le_at unit 6; entries_offset = 11 })
    else None

-- the header of a unit, with its initial length; version at 4; a unit in the 64-bit format is not read
abbrev pub header_of : List ℕ → Option UnitHeader
header_of unit =
    if nat_lt (length unit) 6 || is_64_bit unit then None
    else if u16_le_at unit 4 == 5 then header_of_version_5 unit
    else header_to_version_4 (u16_le_at unit 4) unit
