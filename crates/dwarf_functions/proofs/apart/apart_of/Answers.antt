use Rattle.std.proofs.Common.{◌≡◌, ◌∙◌, List, [], ap, subst, sym, take, rules}
use Rattle.std.specs.List.Sorted.{IsNonDecreasingBy}
use Rattle.std.proofs.lemmas.List.{take_all}
use Rattle.dwarf_ranges.specs.Lists.{in_ranges}
use Rattle.dwarf_ranges.specs.declared.range.CodeRange.{CodeRange}
use Rattle.dwarf_functions.proofs.ApartLemmas.{AreTaken, same_test, taken_next, taken_none}
use Rattle.dwarf_functions.proofs.apart.apart_of.Goals as goal

pub loop-range-init : goal.loop-range-init
loop-range-init c = record { taken = subst (λ (xs : List CodeRange). AreTaken [] xs 0) (sym c.new-apart.ensures.items) taken_none }

pub loop-range-preserved : goal.loop-range-preserved
loop-range-preserved c =
    let ranges : List CodeRange = c.deref-range-items.result.now in
    let none : CodeRange = record { low = 0; high = 0 } in
    let rising : IsNonDecreasingBy (λ (r : CodeRange). r.low) ranges =
    subst (λ (rs : List CodeRange). IsNonDecreasingBy (λ (r : CodeRange). r.low) rs) (sym c.deref-range-items.ensures.value) c.in_ok-sorted.ensures.order in
    record {
      taken = taken_next ranges c.loop-range.apart.items c.push.new.self.items c.loop-range.range-index
          c.loop-range.reached c.max.result c.max-reached.result none rising c.loop-range-test.true
          c.loop-range.invariant.taken c.max.ensures c.max-reached.ensures c.in_ok-push.ensures.items;
    }

pub returns-clause-same : goal.returns-clause-same
returns-clause-same c = λ a.
    let i = c.loop-range.invariant.taken in
    let ranges : List CodeRange = c.deref-range-items.result.now in
    let all : take c.loop-range.range-index ranges ≡ ranges = take_all c.loop-range.range-index ranges (search rules) in
    same_test (in_ranges a c.loop-range.apart.items) (in_ranges a (take c.loop-range.range-index ranges)) (i.to a) (i.from a)
    ∙ (ap (λ (rs : List CodeRange). in_ranges a rs) (all ∙ c.deref-range-items.ensures.value) ∙ c.in_ok-sorted.ensures.same a)

pub returns-clause-apart : goal.returns-clause-apart
returns-clause-apart c = c.loop-range.invariant.taken.are_apart
