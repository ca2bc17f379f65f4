use Rattle.std.proofs.Common.{sym, ◌∙◌, ap}
use Rattle.std.specs.FinSet as set
use Rattle.archive_core.specs.Content.{is_covered}
use Rattle.archive_core.specs.Record.{record_bytes}
use Rattle.archive_core.proofs.Entries.{covering_admission}
use Rattle.archive_index.proofs.covered.BorrowedOperations.retires_operation.Goals as goal

pub returns-in-Admit : goal.returns-in-Admit
returns-in-Admit c =
    c.retires.ensures.retires
    ∙ ap (set.contains c.args.self.now) (sym (covering_admission c.in-Admit.slice c.retires.ensures.valid))
    ∙ ap (λ operation. is_covered c.args.self.now (record_bytes operation)) (sym c.in-Admit.is)
