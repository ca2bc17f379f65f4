use Rattle.std.proofs.Common.{sym, ◌∙◌}
use Rattle.dwarf_entries.specs.EntryViews.{entry_view}
use Rattle.dwarf_source_frames.specs.DebugUnits.{UnitEntryRecord}
use Rattle.dwarf_source_frames.specs.UnitViews.{unit_view}
use Rattle.dwarf_functions.proofs.FunctionNameLemmas.{named_by_origin, none_mapped}
use Rattle.dwarf_functions.proofs.origins.nameless_origin.Goals as goal

pub returns : goal.returns
returns c =
    let e : UnitEntryRecord = record { unit = unit_view c.args.unit.now; entry = entry_view c.args.entry.now } in
    named_by_origin e (sym c.get-2.ensures ∙ none_mapped _ c.get-2.result (sym c.if-is_some-2.ensures))
    (sym c.get-else-is_some-2.ensures ∙ none_mapped _ c.get-else-is_some-2.result (sym c.if-is_some-3.ensures))
    (sym c.get.ensures ∙ none_mapped _ c.get.result (sym c.if-is_some.ensures))
    c.origin_place.result c.origin_place.ensures
