-- Units and entries in the code, as the definitions have them.
use Rattle.dwarf_entries.specs.EntryViews.{entry_view}
use Rattle.dwarf_source_frames.specs.DebugUnits.{UnitRecord, UnitEntryRecord}
use Rattle.dwarf_source_frames.specs.declared.debug_unit.DebugUnit.{DebugUnit}
use Rattle.dwarf_source_frames.specs.declared.debug_unit.UnitEntry.{UnitEntry}

-- a unit, without the address of its bytes in memory
abbrev pub unit_view : DebugUnit → UnitRecord
unit_view u = record { offset = u.offset; bytes = u.bytes.now; header = u.header; first = entry_view u.first }

-- an entry and its unit
abbrev pub unit_entry_view : UnitEntry → UnitEntryRecord
unit_entry_view e = record { unit = unit_view e.unit; entry = entry_view e.entry }
