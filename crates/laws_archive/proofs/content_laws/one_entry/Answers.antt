use Rattle.archive_core.proofs.Entries.{retirement_of_entry, admissions_of_entry}
use Rattle.laws_archive.proofs.content_laws.one_entry.Goals as goal

pub returns : goal.returns
returns c = record { retirement = retirement_of_entry; admissions = admissions_of_entry }
