use Rattle.std.proofs.Common.{arith, inr}
use Rattle.dwarf_entries.specs.EntryViews.{entry_view}
use Rattle.dwarf_source_frames.specs.DebugUnits.{UnitEntryRecord}
use Rattle.dwarf_source_frames.specs.SectionsViews.{sections_view}
use Rattle.dwarf_source_frames.specs.UnitViews.{unit_view}
use Rattle.dwarf_functions.proofs.FunctionNameLemmas.{known_within, named_known}
use Rattle.dwarf_functions.proofs.functions.Functions.named.Goals as goal

pub index-requires : goal.index-requires
index-requires c =
    let was = c.args.self.now in
    let w = known_within (sections_view c.args.info.now.sections) was.functions.items was.origins c.args.origin
    c.in-Some.number c.requires.named c.in-Some.ensures in omega (arith, w, was.functions.ok.0)

pub returns-in-Some : goal.returns-in-Some
returns-in-Some c =
    let was = c.args.self.now in
    let e : UnitEntryRecord = record { unit = unit_view c.args.unit.now; entry = entry_view c.args.entry.now } in
    let known = named_known (sections_view c.args.info.now.sections) e was.functions.items was.origins c.args.origin
    c.in-Some.number c.index.result.now c.requires.named c.requires.origin c.in-Some.ensures c.index.ensures in
    record { name = known.0; number = inr known.1 }
