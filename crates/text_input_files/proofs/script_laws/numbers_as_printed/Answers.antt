use Rattle.text_input_files.proofs.NumberLemmas.{printed, spelled}
use Rattle.text_input_files.proofs.script_laws.numbers_as_printed.Goals as goal

pub returns : goal.returns
returns c = record { printed = printed; only = spelled }
