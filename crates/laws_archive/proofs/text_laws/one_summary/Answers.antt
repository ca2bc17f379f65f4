use Rattle.archive_records.proofs.Inputs.{one_summary as exact}
use Rattle.laws_archive.proofs.text_laws.one_summary.Goals as goal

pub returns : goal.returns
returns c = exact
