use Rattle.std.proofs.Common.{◌<◌, ℕ, List, ap, sym, subst, inl, refl, arith, length, get_or, Some}
use Rattle.std.proofs.lemmas.Grind.{common_steps}
use Rattle.dwarf_source_frames.specs.ByUnit.{addresses_or_none, addresses_under}
use Rattle.dwarf_source_frames.specs.FoundUnits.{AreOfUnit}
use Rattle.dwarf_asked_frames.specs.FoundFrames.{IsFound}
use Rattle.dwarf_asked_addresses.specs.Rising.{AreRising}
use Rattle.dwarf_source_frames.specs.UnitAddresses.{IsUnitOf}
use Rattle.dwarf_source_frames.specs.SectionsViews.{sections_view}
use Rattle.dwarf_asked_frames.proofs.FoundLemmas.{done_next, done_all, each_among, right_none, of_unit_next}
use Rattle.dwarf_asked_frames.proofs.address_frames.find_all.Goals as goal

pub units-init : goal.units-init
units-init c = record {
  right = right_none (sections_view c.args.info.now.sections) c.new-found.result (λ a. grind (arith, common_steps, c.new-found.ensures.empty));
  units = c.requires.units;
  done = λ place. inl refl;
}

pub find_unit-requires : goal.find_unit-requires
find_unit-requires c =
    let s = sections_view c.args.info.now.sections in
    let list = c.in-Some.list.addresses.items in
    let sorted = c.sorted_once-addresses in
    let before : AreOfUnit s c.in-Some.place list = subst (λ (xs : List ℕ). AreOfUnit s c.in-Some.place xs)
    (ap addresses_or_none c.in-Some.ensures.taken) (c.units.invariant.units c.in-Some.place) in
    record {
      lines = c.requires.lines;
      rising = subst (λ (xs : List ℕ). AreRising xs) (sym c.deref.ensures.value) sorted.ensures.rising;
      unit = subst (λ (xs : List ℕ). AreOfUnit s c.in-Some.place xs) (sym c.deref.ensures.value)
          (record { each = each_among (λ a. IsUnitOf s a (Some c.in-Some.place)) list sorted.result.items (λ a h. (sorted.ensures.same a).0 h) before.each });
      right = c.units.invariant.right;
    }

pub units-preserved : goal.units-preserved
units-preserved c =
    let s = sections_view c.args.info.now.sections in
    let list = c.in-Some.list.addresses.items in
    let sorted = c.sorted_once-addresses in
    let found = subst (λ (xs : List ℕ). (i : ℕ) → i < length xs → IsFound s c.find_unit.new.found (get_or xs i 0))
    c.deref.ensures.value c.in_ok-find_unit.ensures.each in
    let each = each_among (λ a. IsFound s c.find_unit.new.found a) sorted.result.items list (λ a h. (sorted.ensures.same a).1 h) found in
    record {
      right = c.in_ok-find_unit.ensures.right;
      units = of_unit_next s c.units.by_unit c.take_unit.new.by_unit c.in-Some.place c.units.invariant.units
          (ap addresses_or_none c.in-Some.ensures.gone)
          (λ other not. ap addresses_or_none (c.in-Some.ensures.others other not));
      done = λ other.
          done_next s c.units.found c.find_unit.new.found c.units.by_unit c.take_unit.new.by_unit c.in-Some.place list
          c.in_ok-find_unit.ensures.kept each (ap addresses_or_none c.in-Some.ensures.taken)
          (λ o not. ap addresses_or_none (c.in-Some.ensures.others o not)) other
          (addresses_under c.args.by_unit other) (c.units.invariant.done other);
    }

pub returns-clause-right : goal.returns-clause-right
returns-clause-right c = c.units.invariant.right

pub returns-clause-each : goal.returns-clause-each
returns-clause-each c = λ place i h.
    (done_all (sections_view c.args.info.now.sections) c.units.found (addresses_under c.units.by_unit place)
    (addresses_under c.args.by_unit place) (ap addresses_or_none (c.in_default.ensures.none place))
    (c.units.invariant.done place)).each i h
