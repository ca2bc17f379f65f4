use Rattle.archive_core.specs.Key.{key_bytes}
use Rattle.archive_core.proofs.Picked.{alike_back, answer_alike, conflict_alike, finds_alike, names_alike, named_back}
use Rattle.laws_archive.proofs.content_laws.answers_of_few_records.Goals as goal

pub returns : goal.returns
returns c = record {
  answer = λ o p key asked answer same. (answer_alike o p key asked answer same, answer_alike p o key asked answer (alike_back (key_bytes key) o p same));
  conflict = λ o p key same. (conflict_alike o p key same, conflict_alike p o key (alike_back (key_bytes key) o p same));
  find = λ o p uuid rows same. (finds_alike o p uuid rows same, finds_alike p o uuid rows (alike_back uuid o p same));
  find_name = λ o p name rows same. (names_alike o p name rows same, names_alike p o name rows (named_back name o p same));
}
