use Rattle.std.proofs.Common.{sym, ap, ◌||◌, ◌∙◌}
use Rattle.std.specs.Ordering.{nat_cmp}
use Rattle.std.specs.BTreeSet as tree_set
use Rattle.dwarf_ranges.proofs.ArangeLemmas.{named_end, named_step, set_less}
use Rattle.dwarf_ranges.proofs.named_sets.named_units.Goals as goal

pub sets-smaller : goal.sets-smaller
sets-smaller c = set_less _ _ _ (sym c.in-Some.ensures.value)

pub sets-preserved : goal.sets-preserved
sets-preserved c = λ offset. named_step _ _ _ offset _ _ _ c.in-Some.ensures.value (c.in_ok-add_unit.ensures offset) (c.sets.invariant offset)

pub returns : goal.returns
returns c = λ offset.
    ap (λ n. n || tree_set.contains nat_cmp c.sets.named offset) (sym (named_end c.sets.rest.now offset c.in_default.ensures.value)) ∙ c.sets.invariant offset
