use Rattle.index_build.proofs.Accepted.{over_any_bytes}
use Rattle.index_build.proofs.laws.entries_over_any_bytes.Goals as goal

pub returns : goal.returns
returns c = over_any_bytes
