use Rattle.std.proofs.Common.{ap, ◌∙◌}
use Rattle.archive_core.specs.Summary.{entry}
use Rattle.archive_records.proofs.Summarised.{entries_more}
use Rattle.archive_from_records.proofs.summarizing.EntriesFromRecords.take.Goals as goal

pub returns : goal.returns
returns c = λ start records apart is. entries_more _ _ c.of.result records c.args.reader.now.last
    c.in_ok-push.ensures.items (c.of.ensures ∙ ap entry c.record.ensures.bytes) is
