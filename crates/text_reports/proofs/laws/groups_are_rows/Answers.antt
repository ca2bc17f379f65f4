use Rattle.text_reports.proofs.Counted.{groups_rows}
use Rattle.text_reports.proofs.laws.groups_are_rows.Goals as goal

pub returns : goal.returns
returns c = groups_rows
