use Rattle.std.proofs.Common.{◌∙◌}
use Rattle.archive_records.proofs.Summarised.{entries_of_content, summary_of_entries}
use Rattle.archive_records.proofs.summary.Summary.of.Goals as goal

pub of_entries-requires : goal.of_entries-requires
of_entries-requires g c = entries_of_content (g.A.Join.content c.args.archive.now) _ c.entries_of.ensures.content c.in_ok-entries.ensures.entries

pub returns : goal.returns
returns g c = c.of_entries.ensures ∙ summary_of_entries (g.A.Join.content c.args.archive.now) _ c.in_ok-entries.ensures.entries
