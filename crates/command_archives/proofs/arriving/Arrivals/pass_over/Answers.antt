use Rattle.std.proofs.Common.{refl}
use Rattle.command_archives.proofs.FirstRows.{first_known}
use Rattle.command_archives.proofs.Taking.{then_ok}
use Rattle.command_archives.proofs.arriving.Arrivals.pass_over.Goals as goal

pub returns-clause-are_first : goal.returns-clause-are_first
returns-clause-are_first c = then_ok c.push_row.result c.push_row.ensures.rows
    (λ pushed records are_first. rw (c.push_row.ensures.came, c.push_row.ensures.first_rows, pushed)
    (first_known _ _ _ records _ _ are_first refl))
