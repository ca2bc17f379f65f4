use Rattle.std.proofs.Common.{◌≡◌, ◌&&◌, nat_le, nat_lt, List, ap, sym, ◌∙◌, rules}
use Rattle.std.proofs.lemmas.List.Sorted.{IsNonDecreasingBy-from_sort_by_key, list_any-IsPermutation}
use Rattle.dwarf_ranges.specs.Lists.{in_ranges}
use Rattle.dwarf_ranges.specs.declared.range.CodeRange.{CodeRange}
use Rattle.dwarf_functions.proofs.apart.in_order.Goals as goal

pub returns-clause-order : goal.returns-clause-order
returns-clause-order c = IsNonDecreasingBy-from_sort_by_key (λ (r : CodeRange). r.low) _ c.sort_unstable_by_key.ensures.sorted (λ a r q k. search rules)

pub returns-clause-same : goal.returns-clause-same
returns-clause-same c = λ a.
    let copied : List CodeRange = c.in_ok-sorted.sorted.items in
    let same : copied ≡ c.args.ranges.now = c.in_ok-sorted.ensures.items_if_clones_equal (λ x y is. search rules) in
    sym (list_any-IsPermutation (λ (r : CodeRange). nat_le r.low a && nat_lt a r.high) copied _ c.sort_unstable_by_key.ensures.permutation)
    ∙ ap (λ (rs : List CodeRange). in_ranges a rs) same
