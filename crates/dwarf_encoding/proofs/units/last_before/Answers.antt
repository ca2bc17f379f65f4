use Rattle.std.proofs.Common.{arith}
use Rattle.std.proofs.lemmas.Grind.{common_steps}
use Rattle.dwarf_encoding.proofs.units.last_before.Goals as goal

pub returns-clause-last : goal.returns-clause-last
returns-clause-last c = λ q above within.
    let h = (c.range.ensures.in_range tt).4 _ _ c.in_ok-place.ensures.steps q in
    grind (arith, common_steps, h)
