use Rattle.archive_core.proofs.Entries.{admission_entry, retirement_entry, length-entry}
use Rattle.laws_archive.proofs.content_laws.entries_in_words.Goals as goal

pub returns : goal.returns
returns c = record { admission = admission_entry; retirement = retirement_entry; long = length-entry }
