use Rattle.std.proofs.Common.{◌≡◌, drop}
use Rattle.dwarf_entries.specs.AttributeViews.{attributes_view}
use Rattle.dwarf_entries.specs.Entries.{attributes_from}
use Rattle.dwarf_entries.proofs.entry.read_attributes.Given as goal

abbrev pub invariant-loop-pair : goal.invariant-loop-pair
invariant-loop-pair l =
    attributes_from l.version (attributes_view l.attributes) (drop l.pair-index l.pairs) l.rest
    ≡ attributes_from l.version (attributes_view l.constants) l.pairs l.bytes
