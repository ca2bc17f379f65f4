use Rattle.std.proofs.Common.{◌≡◌, ◌∙◌, false, ap, arith}
use Rattle.std.specs.Option.{option_map}
use Rattle.std.proofs.lemmas.Grind.{common_steps}
use Rattle.std.proofs.lemmas.Result.{on_ok_weaker}
use Rattle.dwarf_ranges.specs.UnitViews.{unit_view as ranges_view}
use Rattle.dwarf_entries.specs.EntryViews.{entry_view, unread_view}
use Rattle.dwarf_source_frames.specs.Scopes.{is_function, left_after_scope}
use Rattle.dwarf_source_frames.specs.SectionsViews.{sections_view}
use Rattle.dwarf_source_frames.specs.UnitViews.{unit_view}
use Rattle.dwarf_functions.proofs.AddingLemmas.{none_pushed, ranges_added, takes_added, takes_none}
use Rattle.dwarf_functions.proofs.FunctionNameLemmas.{named_closed}
use Rattle.dwarf_functions.proofs.functions.Functions.take.Goals as goal
use Rattle.dwarf_source_frames.proofs.ScopeLemmas.{none_taken}

pub returns-then-not-is_function : goal.returns-then-not-is_function
returns-then-not-is_function c =
    let u = ranges_view c.args.ranges.now in
    let asked = option_map (λ a. a.now) c.args.asked in
    let entry = unread_view c.args.entry.now in
    let ranges = c.args.self.now.ranges.items in
    let none : is_function entry ≡ false = grind (arith, common_steps) in
    record {
      left = none_taken u c.args.left.now entry none;
      ranges = ap (λ v. v.items) c.close.ensures.ranges ∙ none_pushed asked u c.args.left.now entry ranges none;
      taken = takes_none (sections_view c.args.info.now.sections) (unit_view c.args.unit.now) asked u c.args.left.now
          c.args.depth entry _ _ _ _ _ none c.close.ensures.closed;
      named = rw c.close.ensures.origins (named_closed c.args.depth _ _ _ _ c.close.ensures.closed
          (sections_view c.args.info.now.sections) c.args.self.now.origins c.requires.named);
    }

pub push_entry-requires : goal.push_entry-requires
push_entry-requires c = record {
  asked = c.requires.asked;
  named = rw c.close.ensures.origins (named_closed c.args.depth _ _ _ _ c.close.ensures.closed
      (sections_view c.args.info.now.sections) c.args.self.now.origins c.requires.named);
}

pub returns : goal.returns
returns c =
    let u = ranges_view c.args.ranges.now in
    let asked = option_map (λ a. a.now) c.args.asked in
    let entry = unread_view c.args.entry.now in
    let read = entry_view c.read-entry.result in
    let kept = ap (λ v. v.items) c.close.ensures.ranges in
    record {
      left = on_ok_weaker c.push_entry.result (λ more. c.scope_ranges-own.ensures.left
          ∙ ap (left_after_scope u c.args.left.now) c.read-entry.ensures) c.push_entry.ensures.ranges;
      ranges = on_ok_weaker c.push_entry.result (λ more. ranges_added asked u c.args.left.now entry read _ _ _ _
          c.read-entry.ensures c.scope_ranges-own.ensures.ranges kept more) c.push_entry.ensures.ranges;
      taken = on_ok_weaker c.push_entry.result (λ added. takes_added (sections_view c.args.info.now.sections)
          (unit_view c.args.unit.now) asked u c.args.left.now c.args.depth entry read
          c.read-entry.ensures c.scope_ranges-own.ensures.ranges c.close.ensures.closed added)
          c.push_entry.ensures.added;
      named = c.push_entry.ensures.named;
    }
