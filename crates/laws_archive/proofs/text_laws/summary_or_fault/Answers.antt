use Rattle.laws_archive.proofs.Complete.{summary_or_fault as exact}
use Rattle.laws_archive.proofs.text_laws.summary_or_fault.Goals as goal

pub returns : goal.returns
returns c = exact
