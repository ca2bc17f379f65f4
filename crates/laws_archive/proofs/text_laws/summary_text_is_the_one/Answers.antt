use Rattle.archive_records.proofs.Contents.{one_summary_text, text_of_summary}
use Rattle.laws_archive.proofs.text_laws.summary_text_is_the_one.Goals as goal

pub returns : goal.returns
returns c = λ s text. (one_summary_text s text, text_of_summary s text)
