use Rattle.laws_index.proofs.IndexRows.{rows_of_index}
use Rattle.laws_index.proofs.Accepted.{have_keys}
use Rattle.laws_index.proofs.command_laws.rows_of_index.Goals as goal

pub returns : goal.returns
returns c = record { rows = λ prefix o rows short content keys fits is. rows_of_index prefix o short content keys fits rows is; keys = have_keys }
