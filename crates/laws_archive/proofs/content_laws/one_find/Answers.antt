use Rattle.archive_index.proofs.Scanned.{one_list_of_rows}
use Rattle.archive_index.proofs.Listed.{some_finds}
use Rattle.laws_archive.proofs.content_laws.one_find.Goals as goal

pub returns : goal.returns
returns c = record { some = some_finds; one = one_list_of_rows }
