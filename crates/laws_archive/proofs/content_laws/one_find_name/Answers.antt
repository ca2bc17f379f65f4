use Rattle.archive_index.proofs.Naming.{some_names, one_list_of_names}
use Rattle.laws_archive.proofs.content_laws.one_find_name.Goals as goal

pub returns : goal.returns
returns c = record { some = some_names; one = one_list_of_names }
