use Rattle.std.proofs.Common.{◌∙◌}
use Rattle.archive_records.proofs.Summarised.{entries_of_content, summary_of_entries}
use Rattle.archive_from_records.proofs.summarizing.EntriesFromRecords.finish.Goals as goal

pub of_entries-requires : goal.of_entries-requires
of_entries-requires c = entries_of_content c.requires.1 _ c.requires.2 c.requires.3

pub returns : goal.returns
returns c = λ question o content is. c.of_entries.ensures ∙ summary_of_entries o _ is
