use Rattle.std.proofs.Common.{◌≡◌, ◌∙◌, ℕ, List, ap}
use Rattle.std.proofs.lemmas.Result.{on_ok_weaker}
use Rattle.dwarf_ranges.specs.Lists.{in_ranges}
use Rattle.dwarf_ranges.specs.declared.range.CodeRange.{CodeRange}
use Rattle.dwarf_functions.proofs.RangeLemmas.{takes_same}
use Rattle.dwarf_functions.proofs.taking.Taking.take_function.Goals as goal

pub returns-clause-takes : goal.returns-clause-takes
returns-clause-takes c =
    let parts : List CodeRange = c.deref.result.now in
    let same : (a : ℕ) → in_ranges a parts ≡ in_ranges a c.args.ranges.now =
    λ a. ap (λ (rs : List CodeRange). in_ranges a rs) c.deref.ensures.value ∙ c.in_ok-parts.ensures.same a in
    on_ok_weaker c.take_ranges-2.result
    (λ takes of f are there is. takes_same of c.args.index f c.args.ranges.now parts c.args.self.now
    c.take_ranges-2.new.self same is (takes of f are there)) c.take_ranges-2.ensures.takes
