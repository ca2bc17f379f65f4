use Rattle.text_reports.proofs.Counted.{groups_count_found}
use Rattle.text_reports.proofs.laws.conflicts_count_answering.Goals as goal

pub returns : goal.returns
returns c = groups_count_found
