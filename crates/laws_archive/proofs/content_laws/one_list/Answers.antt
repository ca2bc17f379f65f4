use Rattle.archive_index.proofs.Listed.{some_list, one_list_of_all}
use Rattle.laws_archive.proofs.content_laws.one_list.Goals as goal

pub returns : goal.returns
returns c = record { some = some_list; one = one_list_of_all }
