use Rattle.std.proofs.Common.{arith, sym, refl, length, ◌-◌}
use Rattle.std.specs.Option.{option_map}
use Rattle.std.specs.Ordering.{nat_cmp}
use Rattle.std.specs.BTreeMap as tree_map
use Rattle.dwarf_encoding.proofs.UnitLemmas.{table_step, table_done}
use Rattle.dwarf_encoding.proofs.units.table.Goals as goal

pub units-preserved : goal.units-preserved
units-preserved c = record {
  within = omega (arith, c.in-Some.ensures.shorter);
  each = λ q.
      table_step (option_map (λ u. u.now) (tree_map.get nat_cmp c.units.by_offset q)) _ q (length c.args.section.now)
      (length c.args.section.now - length c.units.rest.now) c.units.rest.now c.in-Some.unit.now c.in-Some.after.now
      _
      c.in-Some.ensures.value refl (c.in_ok-keep_first.ensures q) (c.units.invariant.each q);
}

pub returns : goal.returns
returns c = λ q. table_done (option_map (λ u. u.now) (tree_map.get nat_cmp c.units.by_offset q)) q
    (length c.args.section.now) c.units.rest.now _ (sym c.in_default.ensures.value) (c.units.invariant.each q)
