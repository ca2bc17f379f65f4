-- The shape of an entry in the code, as the definitions have it.
use Rattle.dwarf_entries.specs.AttributeViews.{attributes_view}
use Rattle.dwarf_entries.specs.Specifications.{ShapeRecord}
use Rattle.dwarf_entries.specs.declared.specification.Shape.{Shape}

-- a shape, without the addresses of its parts in memory
abbrev pub shape_view : Shape → ShapeRecord
shape_view s = record { constants = attributes_view s.constants; pairs = s.pairs.items }
