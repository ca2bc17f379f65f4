use Rattle.std.proofs.Common.{ℕ, ◌∙◌, List, ap, subst}
use Rattle.std.specs.Prelude.{◌↔◌}
use Rattle.std.specs.List.{Contains}
use Rattle.std.proofs.lemmas.List.{take_all}
use Rattle.dwarf_functions.specs.Links.{ends_of_ranges}
use Rattle.dwarf_functions.proofs.links.starts_of.Goals as goal

pub returns-clause-same : goal.returns-clause-same
returns-clause-same c = λ a.
    subst (λ (xs : List ℕ). Contains c.sorted_once.result.items a ↔ Contains xs a)
    (c.loop-range.invariant.so_far ∙ ap ends_of_ranges
    (take_all c.loop-range.range-index c.args.ranges.now c.loop-range-test.false)) (c.sorted_once.ensures.same a)
