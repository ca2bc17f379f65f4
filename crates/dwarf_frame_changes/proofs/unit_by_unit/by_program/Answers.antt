use Rattle.std.proofs.Common.{List, sym, subst}
use Rattle.dwarf_frame_changes.specs.declared.unit_by_unit.UnitBoundaries.{UnitBoundaries}
use Rattle.dwarf_frame_changes.proofs.ProgramLemmas.{AreListed, in_order, listed_more}
use Rattle.dwarf_frame_changes.proofs.unit_by_unit.by_program.Goals as goal

pub units-preserved : goal.units-preserved
units-preserved c =
    let unit : UnitBoundaries = record { program = c.program_offset_at.result; place = c.in-Some.place; boundaries = c.sorted_once.result } in
    subst (λ (xs : List UnitBoundaries). AreListed c.args.by_unit c.take_unit.new.by_unit xs) (sym c.in_ok-push.ensures.items)
    (listed_more c.args.by_unit c.units.by_unit c.take_unit.new.by_unit c.units.all.items unit c.in-Some.list c.units.invariant
    c.in-Some.ensures.taken c.in-Some.ensures.gone c.in-Some.ensures.others c.sorted_once.ensures.rising c.sorted_once.ensures.same)

pub returns : goal.returns
returns c = in_order c.args.by_unit c.units.by_unit c.units.all.items c.sort_unstable_by_key.new.self.items
    c.sort_unstable_by_key.ensures.permutation c.in_default.ensures.none c.units.invariant
