use Rattle.std.proofs.Common.{◌+◌, refl, arith}
use Rattle.dwarf_entries.specs.EntryViews.{entry_view}
use Rattle.std.specs.Option.{option_map}
use Rattle.dwarf_source_frames.specs.Scopes.{ScopeRecord}
use Rattle.dwarf_source_frames.specs.SectionsViews.{sections_view}
use Rattle.dwarf_source_frames.specs.UnitViews.{unit_view}
use Rattle.dwarf_functions.specs.Asked.{asked_scope}
use Rattle.dwarf_functions.specs.FunctionNames.{name_of}
use Rattle.dwarf_functions.specs.declared.functions.Function.{Function}
use Rattle.dwarf_functions.proofs.AddingLemmas.{adds_one}
use Rattle.dwarf_functions.proofs.FunctionNameLemmas.{named_more, named_there}
use Rattle.dwarf_functions.proofs.functions.Functions.push_entry.Goals as goal

pub returns : goal.returns
returns c =
    let was = c.args.self.now in
    let s = sections_view c.args.info.now.sections in
    let unit = unit_view c.args.unit.now in
    let origin = c.nameless_origin-origin.result in
    let name = c.named-named.result in
    let scope : ScopeRecord = asked_scope (option_map (λ a. a.now) c.args.asked)
    (record { depth = c.args.depth; entry = entry_view c.args.entry.now; ranges = c.args.ranges }) in
    let f : Function = record {
      name = name.name;
      name_number = name.number;
      call = c.of_call-call.result;
      is_subprogram = c.is_subprogram.result;
      end =
          c.len-index.result + 1;
      ranges_end = c.len-2.result;
    } in
    record {
      ranges = c.in_ok-push_ranges.ensures;
      added = adds_one s unit scope was.ranges.items c.push_ranges.new.all.items
          c.args.opened.now.items c.push-2.new.self.items was.functions.items c.push.new.self.items f c.len-index.result
          c.in_ok-push_ranges.ensures (λ same. omega (arith, c.push_ranges.new.all.ok.0, was.ranges.ok.0)) (omega (arith, was.functions.ok.0))
          c.named-named.ensures.name c.of_call-call.ensures c.is_subprogram.ensures refl (omega (arith, c.push_ranges.new.all.ok.0))
          c.in_ok-push.ensures.items c.in_ok-push-2.ensures.items;
      named = named_more s was.functions.items c.push.new.self.items f was.origins c.keep.new.self origin
          c.in_ok-push.ensures.items c.named-named.ensures.number c.keep.ensures
          (λ p is. named_there s (record { unit = unit; entry = scope.entry }) origin p (name_of f)
          c.nameless_origin-origin.ensures is c.named-named.ensures.name) c.requires.named;
    }
