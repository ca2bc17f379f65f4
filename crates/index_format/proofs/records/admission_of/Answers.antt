use Rattle.std.proofs.Common.{ap, ◌∙◌}
use Rattle.archive_core.specs.Record.{record_bytes}
use Rattle.index_format.proofs.records.admission_of.Goals as goal

pub returns-in_ok-copy-clause-found : goal.returns-in_ok-copy-clause-found
returns-in_ok-copy-clause-found c = ap record_bytes c.in_ok-copy.ensures ∙ c.in-Some.ensures.found
