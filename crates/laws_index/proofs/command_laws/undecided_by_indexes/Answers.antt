use Rattle.laws_index.proofs.Extracted.{undecided_alone, undecided_by_entries, undecided_either, undecided_with_digest}
use Rattle.laws_index.proofs.command_laws.undecided_by_indexes.Goals as goal

pub returns : goal.returns
returns g c = record {
  digest = λ inputs archives os key digest told given is_key lacks. undecided_with_digest inputs archives os given key digest told is_key lacks;
  entry = λ inputs archives os key digest told given tell is_key lacks. undecided_by_entries inputs archives os given key digest told tell is_key lacks;
  alone = λ input archive o key digest told given is_key lacks. undecided_alone input archive o key digest told given is_key lacks;
  either = λ inputs archives os key digest draft told own tell is_key lacks. undecided_either inputs archives os key digest draft told own tell is_key lacks;
}
