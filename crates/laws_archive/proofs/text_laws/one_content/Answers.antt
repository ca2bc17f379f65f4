use Rattle.archive_records.proofs.Versions.{one_content as exact}
use Rattle.laws_archive.proofs.text_laws.one_content.Goals as goal

pub returns : goal.returns
returns c = exact
