use Rattle.std.proofs.Common.{◌∙◌, sym, inl, inr, arith, length, ◌-◌}
use Rattle.std.specs.Ordering.{nat_cmp}
use Rattle.std.specs.BTreeSet as tree_set
use Rattle.std.proofs.lemmas.Bool.{cases_Bool}
use Rattle.dwarf_ranges.specs.Lists.{in_ranges}
use Rattle.dwarf_source_frames.specs.SectionsViews.{sections_view}
use Rattle.dwarf_source_frames.specs.UnitAddresses.{own_ranges}
use Rattle.dwarf_source_frames.proofs.UnitAddressLemmas.{no_unit, unit_hit, unit_miss}
use Rattle.dwarf_source_frames.proofs.debug_info.DebugInfo.assign_units.Goals as goal

pub units-preserved : goal.units-preserved
units-preserved c =
    let sections = sections_view c.args.self.now.sections in
    let size = length c.args.self.now.sections.debug_info.now in
    let offset = size - length c.units.rest.now in
    let assigns = c.in_ok-assign_unit.ensures in
    let known = c.units.invariant in
    record {
      within = omega (arith, known.within, c.in-Some.ensures.shorter);
      left = λ a waits. elim (cases_Bool (in_ranges a (own_ranges sections offset c.in-Some.bytes.now))) [
        | inl has ↦ absurd (cc (assigns.none_within a has, waits))
        | inr not ↦ sym (unit_miss sections a size _ _ _ c.in-Some.ensures.value not) ∙ known.left a (assigns.was_pending a waits)
      ];
      was_pending = λ a waits. known.was_pending a (assigns.was_pending a waits);
      blank = λ a waits. assigns.left_is a waits ∙ known.blank a (assigns.was_pending a waits);
      found = λ a all gone. elim (cases_Bool (tree_set.contains nat_cmp c.units.pending a)) [
        | inl waited ↦ assigns.given a waited gone ∙ sym
            (unit_hit sections a size _ _ _ c.in-Some.ensures.value (assigns.given_within a waited gone))
            ∙ known.left a waited
        | inr not_waited ↦ assigns.others a not_waited ∙ known.found a all not_waited
      ];
      others = λ a none. elim (cases_Bool (tree_set.contains nat_cmp c.units.pending a)) [
        | inl waited ↦ absurd (cc (known.was_pending a waited, none))
        | inr not_waited ↦ assigns.others a not_waited ∙ known.others a none
      ];
    }

pub returns-clause-found : goal.returns-clause-found
returns-clause-found c = λ a all. elim (cases_Bool (tree_set.contains nat_cmp c.units.pending a)) [
  | inl waits ↦ c.units.invariant.blank a waits ∙ sym (no_unit _ a _ _ c.in_default.ensures.value) ∙ c.units.invariant.left a waits
  | inr gone ↦ c.units.invariant.found a all gone
]
