use Rattle.std.proofs.Common.{◌≡◌, ◌∙◌, ap}
use Rattle.std.specs.Option.{option_map}
use Rattle.dwarf_ranges.specs.UnitViews.{unit_view as ranges_view}
use Rattle.dwarf_entries.specs.EntryViews.{placed_view}
use Rattle.dwarf_source_frames.specs.Scopes.{scopes_from, scopes_of}
use Rattle.dwarf_source_frames.specs.SectionsViews.{sections_view}
use Rattle.dwarf_source_frames.specs.UnitViews.{unit_view}
use Rattle.dwarf_functions.specs.Asked.{asked_scopes}
use Rattle.dwarf_functions.specs.UnitFunctions.{functions_from}
use Rattle.dwarf_functions.proofs.FunctionNameLemmas.{named_none, numbered_closed}
use Rattle.dwarf_functions.proofs.ReadToLemmas.{read_all, read_next, read_none}
use Rattle.dwarf_functions.proofs.functions.Functions.read.Goals as goal

pub loop-placed-init : goal.loop-placed-init
loop-placed-init c =
    let s = sections_view c.args.info.now.sections in
    let unit = unit_view c.args.unit.now in
    let asked = option_map (λ a. a.now) c.args.asked in
    let rest = scopes_from (ranges_view c.unit_ranges-ranges.result) c.entries_of_lists-left.result c.into_iter-placed-iterator.result in
    let entries = c.into_iter-placed-iterator.ensures.into_iter_gives ∙ c.of-placed-items.ensures in
    let same : rest ≡ scopes_of s unit = cc (c.unit_ranges-ranges.ensures, c.entries_of_lists-left.ensures.is, entries) in
    record {
      can = tt;
      ends = tt;
      named = named_none s c.new.result.items c.in_ok-new.field-0 c.new.ensures.items c.in_ok-new.ensures;
      so_far = read_none s unit (asked_scopes asked (scopes_of s unit)) (asked_scopes asked rest) c.new.result.items
          c.new-2.result.items c.new-opened.result.items (ap (asked_scopes asked) same) c.new.ensures.items
          c.new-2.ensures.items c.new-opened.ensures.items;
    }

pub loop-placed-preserved : goal.loop-placed-preserved
loop-placed-preserved c =
    let s = sections_view c.args.info.now.sections in
    let unit = unit_view c.args.unit.now in
    let asked = option_map (λ a. a.now) c.args.asked in
    let before = c.loop-placed in
    record {
      can = tt;
      ends = tt;
      named = c.in_ok-take.ensures.named;
      so_far = read_next s unit (functions_from 0 (asked_scopes asked (scopes_of s unit))) asked
          (ranges_view c.unit_ranges-ranges.result) before.left c.take.new.left (placed_view c.in-Some.placed)
          before.placed-iterator c.next.new.self
          before.opened.items c.take.new.opened.items before.all.functions.items c.take.new.self.functions.items
          before.all.ranges.items c.take.new.self.ranges.items
          c.in-Some.ensures.steps c.in_ok-take.ensures.left c.in_ok-take.ensures.ranges c.in_ok-take.ensures.taken before.invariant.so_far;
    }

pub take-requires : goal.take-requires
take-requires c = record {
  asked = c.requires.asked;
  among = c.loop-placed.invariant.so_far.open_to.among;
  named = c.loop-placed.invariant.named;
}

pub close-requires : goal.close-requires
close-requires c = c.loop-placed.invariant.so_far.open_to.among

pub returns : goal.returns
returns c =
    let s = sections_view c.args.info.now.sections in
    let unit = unit_view c.args.unit.now in
    let asked = option_map (λ a. a.now) c.args.asked in
    let before = c.loop-placed in record {
      are = rw (ap (λ v. v.items) c.close.ensures.ranges)
          (read_all s unit (asked_scopes asked (scopes_of s unit)) asked (ranges_view c.unit_ranges-ranges.result)
          before.left before.placed-iterator before.opened.items c.close.new.opened.items
          before.all.functions.items c.close.new.self.functions.items before.all.ranges.items c.in-None.ensures.steps.0
          c.close.ensures.closed before.invariant.so_far);
      numbered = numbered_closed 0 _ _ _ _ c.close.ensures.closed before.invariant.named.numbered;
    }
