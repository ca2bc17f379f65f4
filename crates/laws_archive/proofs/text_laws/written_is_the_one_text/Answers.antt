use Rattle.archive_records.proofs.Contents.{one_text, text_written}
use Rattle.laws_archive.proofs.text_laws.written_is_the_one_text.Goals as goal

pub returns : goal.returns
returns c = λ o text. (one_text o text, text_written o text)
