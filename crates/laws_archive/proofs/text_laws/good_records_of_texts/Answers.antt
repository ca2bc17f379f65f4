use Rattle.laws_archive.proofs.Sides.{good_text, good_old, of_both_is, of_both_made}
use Rattle.laws_archive.proofs.text_laws.good_records_of_texts.Goals as goal

pub returns : goal.returns
returns c = record { records = good_text; joined = of_both_is; old = good_old; made = of_both_made }
