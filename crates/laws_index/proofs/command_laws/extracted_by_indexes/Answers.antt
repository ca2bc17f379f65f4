use Rattle.laws_index.proofs.Extracted.{extracted_alone, extracted_by_entry, extracted_either}
use Rattle.laws_index.proofs.command_laws.extracted_by_indexes.Goals as goal

pub returns : goal.returns
returns g c = record {
  entry = λ inputs archives os key digest slice told own tell is_key makes. extracted_by_entry inputs archives os own key digest slice told tell is_key makes;
  alone = λ input archive o key digest slice told own is_key makes. extracted_alone input archive o key digest slice told own is_key makes;
  either = λ inputs archives os key digest draft slice told own tell is_key makes.
      extracted_either inputs archives os own key digest draft slice told tell is_key makes;
}
