use Rattle.std.proofs.Common.{sym, ap, length, arith, ◌∙◌}
use Rattle.dwarf_ranges.proofs.ArangeLemmas.{no_first_tuples, one_set, one_tuple, set_less, sets_end}
use Rattle.dwarf_ranges.proofs.aranges.ArangesIterator.next.Goals as goal

pub sets-smaller : goal.sets-smaller
sets-smaller c = set_less _ _ _ (sym c.in_ok-set.ensures.value)

pub sets-preserved : goal.sets-preserved
sets-preserved c = one_set _ _ _ _ _ _ _ (sym c.in_default.ensures) c.in_ok-set.ensures.value c.tuples_of.ensures c.sets.invariant

pub returns-in_err-set-clause-steps : goal.returns-in_err-set-clause-steps
returns-in_err-set-clause-steps c =
    let none = no_first_tuples c.sets.self-inside.debug_info_offset c.sets.self-inside.tuples.now
    c.sets.self-inside.sets.now (sym c.in_default.ensures)
    ∙ sets_end c.sets.self-inside.sets.now (sym c.in_err-set.ensures.value) in
    rw c.from_residual.ensures (sym c.sets.invariant ∙ none, none)

pub returns-in-Some-clause-steps : goal.returns-in-Some-clause-steps
returns-in-Some-clause-steps c = one_tuple _ _ _ _ _ _ _ c.in-Some.ensures c.sets.invariant

pub returns-in-Some-clause-goes : goal.returns-in-Some-clause-goes
returns-in-Some-clause-goes c =
    let whole = one_tuple _ _ _ _ _ _ _ c.in-Some.ensures c.sets.invariant in
    record { on = λ ends. (tt, tt, omega (arith, ap length whole)); keeps = tt; rests = λ ends. tt }
