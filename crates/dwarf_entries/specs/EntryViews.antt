-- Entries in the code, as the definitions have them.
use Rattle.dwarf_entries.specs.AttributeViews.{attributes_view}
use Rattle.dwarf_entries.specs.Entries.{EntryRecord, PlacedRecord, attributes_of}
use Rattle.dwarf_entries.specs.ShapeViews.{shape_view}
use Rattle.dwarf_entries.specs.declared.entry.Entry.{Entry}
use Rattle.dwarf_entries.specs.declared.unread_entry.UnreadEntry.{UnreadEntry}
use Rattle.dwarf_entries.specs.declared.entries.PlacedEntry.{PlacedEntry}

-- an entry, without the addresses of its texts in memory
abbrev pub entry_view : Entry → EntryRecord
entry_view e = record { tag = e.tag; has_children = e.has_children; attributes = attributes_view e.attributes }

-- an entry whose values are not read yet, with its values
abbrev pub unread_view : UnreadEntry → EntryRecord
unread_view e =
    record {
      tag = e.declaration.now.tag;
      has_children = e.declaration.now.has_children;
      attributes = attributes_of e.version (shape_view e.declaration.now.shape) e.values.now;
    }

-- an entry in its unit
abbrev pub placed_view : PlacedEntry → PlacedRecord
placed_view e = record { offset = e.offset; depth = e.depth; entry = unread_view e.entry }
