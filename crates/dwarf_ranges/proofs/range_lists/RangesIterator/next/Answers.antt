use Rattle.std.proofs.Common.{◌≡◌, ◌∷◌, sym, ap, None, Some, length, arith, ◌∙◌}
use Rattle.dwarf_ranges.specs.Lists.{ranges_within}
use Rattle.dwarf_ranges.specs.Views.{entry_at}
use Rattle.dwarf_ranges.proofs.ListLemmas.{no_first, none_within, ranges_end, ranges_missing, step}
use Rattle.dwarf_ranges.proofs.range_lists.RangesIterator.next.Goals as goal

pub entries-preserved : goal.entries-preserved
entries-preserved c = record {
  first = c.entries.invariant.first;
  ranges = step _ _ _ _ _ _ _ None _ c.entries-test.true c.in_ok-entry.ensures (sym c.if-is_end.ensures)
      c.base_after-self-inside.ensures c.in_default-range.ensures c.entries.invariant.ranges;
}

pub returns-in_err-entry-clause-steps : goal.returns-in_err-entry-clause-steps
returns-in_err-entry-clause-steps c =
    let s = c.entries.self-inside in
    let none = ranges_missing s.left s.format s.base s.rest.now (sym c.in_err-entry.ensures) in
    rw c.from_residual.ensures (sym c.entries.invariant.ranges ∙ none, no_first _ _ c.entries.invariant.first ∙ none)

pub returns-then-is_end-clause-steps : goal.returns-then-is_end-clause-steps
returns-then-is_end-clause-steps c =
    let s = c.entries.self-inside in (
      sym c.entries.invariant.ranges ∙ ranges_end _ _ _ _ _ _ c.entries-test.true c.in_ok-entry.ensures (sym c.if-is_end.ensures),
      no_first _ _ c.entries.invariant.first ∙ none_within s.format s.base s.rest.now,
    )

pub returns-in-Some-range-clause-steps : goal.returns-in-Some-range-clause-steps
returns-in-Some-range-clause-steps c =
    let here = step _ _ _ _ _ _ _ (Some c.in-Some-range.range) _ c.entries-test.true c.in_ok-entry.ensures
    (sym c.if-is_end.ensures) c.base_after-self-inside.ensures c.in-Some-range.ensures c.entries.invariant.ranges in
    sym here ∙ ap (λ rest. c.in-Some-range.range ∷ rest) (sym (no_first _ _ c.entries.invariant.first))

pub returns-in-Some-range-clause-goes : goal.returns-in-Some-range-clause-goes
returns-in-Some-range-clause-goes c =
    let here = step _ _ _ _ _ _ _ (Some c.in-Some-range.range) _ c.entries-test.true c.in_ok-entry.ensures
    (sym c.if-is_end.ensures) c.base_after-self-inside.ensures c.in-Some-range.ensures c.entries.invariant.ranges in
    let whole = sym here ∙ ap (λ rest. c.in-Some-range.range ∷ rest) (sym (no_first _ _ c.entries.invariant.first)) in
    record { on = λ ends. (tt, tt, omega (arith, ap length whole)); keeps = tt; rests = λ ends. tt }

pub returns-clause-steps : goal.returns-clause-steps
returns-clause-steps c =
    let s = c.entries.self-inside in
    let empty : s.left ≡ 0 = omega (arith, c.entries-test.false) in
    let none = ap (λ n. ranges_within (entry_at s.format) n s.base s.rest.now) empty ∙ none_within s.format s.base s.rest.now in (
      sym c.entries.invariant.ranges ∙ none,
      no_first _ _ c.entries.invariant.first ∙ none,
    )
