use Rattle.std.proofs.Common.{◌≡◌, None, drop}
use Rattle.dwarf_lines.specs.Names.{fields_from}
use Rattle.dwarf_lines.specs.NameViews.{fields_view}
use Rattle.dwarf_lines.proofs.name_entries.read_fields.Given as goal

abbrev pub invariant-loop-pair : goal.invariant-loop-pair
invariant-loop-pair l =
    fields_from (fields_view l.fields) (drop l.pair-index l.format) l.rest
    ≡ fields_from (record { path = None; directory_index = None }) l.format l.bytes
