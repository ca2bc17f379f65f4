use Rattle.laws_archive.proofs.Sides.{good_records}
use Rattle.laws_archive.proofs.text_laws.good_records_exist.Goals as goal

pub returns : goal.returns
returns c = good_records
