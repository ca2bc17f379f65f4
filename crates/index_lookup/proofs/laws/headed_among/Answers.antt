use Rattle.std.proofs.Common.{[], arith}
use Rattle.index_lookup.proofs.HeadedEntries.{headed}
use Rattle.index_lookup.proofs.laws.headed_among.Goals as goal

pub returns-clause-headed : goal.returns-clause-headed
returns-clause-headed c = headed

pub returns-clause-empty : goal.returns-clause-empty
returns-clause-empty c texts indexes prefix lines asked answer frames x text is has at stored =
    omega (arith, (headed texts indexes prefix lines asked answer frames x text [] is has at stored).has_head)
