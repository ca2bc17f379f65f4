use Rattle.archive_records.proofs.Magics.{bad_is, is_bad, truncated_is, is_truncated}
use Rattle.laws_archive.proofs.text_laws.magics_in_words.Goals as goal

pub returns : goal.returns
returns c = record {
  truncated = λ text. (truncated_is text, is_truncated text);
  bad = λ text. (bad_is text, is_bad text);
}
