-- Tables of addresses in the code, as the definitions have them.
use Rattle.dwarf_ranges.specs.Addresses.{AddressesRecord}
use Rattle.std.specs.Prelude.{ℕ, List, Option}
use Rattle.dwarf_ranges.specs.ListEntries.{debug_ranges_entry_at, rnglists_entry_at}
use Rattle.dwarf_ranges.specs.declared.list_format.ListFormat.{ListFormat}
use Rattle.dwarf_ranges.specs.declared.list_format.ListFormat.TheVariants.{DebugRanges, Rnglists}
use Rattle.dwarf_ranges.specs.declared.range_entry.RangeEntry.{RangeEntry}
use Rattle.dwarf_ranges.specs.declared.addresses.AddressTable.{AddressTable}

-- a table, without the address of its bytes in memory
abbrev pub addresses_view : AddressTable → AddressesRecord
addresses_view a = record { debug_addr = a.debug_addr.now; addr_base = a.addr_base }

-- the entry that begins the bytes, by the encoding of its list
abbrev pub entry_at : ListFormat → List ℕ → Option (RangeEntry × List ℕ)
entry_at DebugRanges bytes = debug_ranges_entry_at bytes
entry_at (Rnglists addresses) bytes = rnglists_entry_at (addresses_view addresses) bytes
