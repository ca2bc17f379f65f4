use Rattle.std.specs.BTreeMap as tree_map
use Rattle.dwarf_frame_changes.proofs.ProgramLemmas.{AreListed}
use Rattle.dwarf_frame_changes.proofs.unit_by_unit.by_program.Given as goal

abbrev pub invariant-units : goal.invariant-units
invariant-units l = AreListed l.fn.by_unit l.by_unit l.all.items

abbrev pub decreases-units : goal.decreases-units
decreases-units l = tree_map.btree_map_len l.by_unit
