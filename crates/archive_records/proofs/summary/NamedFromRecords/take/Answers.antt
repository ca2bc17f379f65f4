use Rattle.std.proofs.Common.{◌∙◌}
use Rattle.archive_records.proofs.Summarised.{named_more}
use Rattle.archive_records.proofs.summary.NamedFromRecords.take.Goals as goal

pub returns : goal.returns
returns c = λ start records apart is. named_more _ _ c.entry_in.result records c.args.reader.now.last
    c.in_ok-push.ensures.items (c.entry_in.ensures ∙ c.last.ensures) is
