use Rattle.archive_records.specs.declared.kind.TextKind.TheVariants.{Operations}
use Rattle.archive_records.proofs.Made.{told_whole}
use Rattle.archive_from_records.proofs.operations.read_ops.Goals as goal

pub returns : goal.returns
returns g c = told_whole Operations (λ operations. operations.items) g.R.Source.left g.R.Source.failures c.args.r.now
    c.read_answer.new.r c.read_answer.result c.read_answer.ensures
