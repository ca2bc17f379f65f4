-- The parts of a path in the code, as the definitions have them.
use Rattle.dwarf_lines.specs.Paths.{PathRecord}
use Rattle.dwarf_lines.specs.declared.path.PathParts.{PathParts}

-- the parts, without their addresses in memory
abbrev pub path_view : PathParts → PathRecord
path_view p = record { base = p.base.now; directory = p.directory.now; name = p.name.now }
