use Rattle.std.proofs.Common.{arith}
use Rattle.index_format.proofs.ends.fit.Goals as goal

pub returns-in_default : goal.returns-in_default
returns-in_default c = (λ t. absurd (cc (t)), λ fit. absurd (c.in_default.ensures (omega (arith, fit.0))))
