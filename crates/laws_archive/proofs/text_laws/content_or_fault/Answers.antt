use Rattle.laws_archive.proofs.Complete.{content_or_fault as exact}
use Rattle.laws_archive.proofs.text_laws.content_or_fault.Goals as goal

pub returns : goal.returns
returns c = exact
