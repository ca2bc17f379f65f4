use Rattle.std.proofs.Common.{◌∙◌, ap, not}
use Rattle.archive_core.specs.Record.{record_bytes}
use Rattle.archive_core.proofs.Taken.{unchanged_same}
use Rattle.archive_index.proofs.plain.PlainArchive.knows.Goals as goal

pub returns-clause-same : goal.returns-clause-same
returns-clause-same c = λ known.
    (unchanged_same c.args.self.now (record_bytes c.args.operation.now) c.lend.ensures.content.itself).0
    (rw (← c.lend.ensures.borrowed) (c.knows.ensures.changes ∙ ap not known))
