use Rattle.std.proofs.Common.{refl, ◌∙◌}
use Rattle.command_archives.specs.Admit.{file_rows}
use Rattle.command_archives.specs.InnerArriving.{slice_rows}
use Rattle.command_archives.proofs.FirstRows.{first_known}
use Rattle.command_archives.proofs.Taking.{always, then_ok}
use Rattle.command_archives.proofs.arriving.Arrivals.take_part.Goals as goal

pub returns-in_ok-taken-in-Some-clause-came : goal.returns-in_ok-taken-in-Some-clause-came
returns-in_ok-taken-in-Some-clause-came c = rw c.in-Some.is (always c.push_row.result (c.push_row.ensures.came ∙ c.in_ok-taken-in-Some.ensures.came))

pub returns-in_ok-taken-in-Some-clause-rows : goal.returns-in_ok-taken-in-Some-clause-rows
unfolding file_rows slice_rows
returns-in_ok-taken-in-Some-clause-rows c =
    rw c.in-Some.is (then_ok c.push_row.result c.push_row.ensures.rows
    (λ pushed. pushed ∙ rw (c.in_ok-taken-in-Some.ensures.rows, c.in_ok-taken-in-Some.ensures.taken) refl))

pub returns-in_ok-taken-in-Some-clause-are_first : goal.returns-in_ok-taken-in-Some-clause-are_first
returns-in_ok-taken-in-Some-clause-are_first c =
    rw c.in-Some.is (then_ok c.push_row.result c.push_row.ensures.rows (λ pushed records are_first.
    rw (c.push_row.ensures.came, c.push_row.ensures.first_rows, pushed, c.in_ok-taken-in-Some.ensures.rows)
    (c.in_ok-taken-in-Some.ensures.are_first records _ refl are_first)))

pub returns-in-None-clause-came : goal.returns-in-None-clause-came
returns-in-None-clause-came c = rw c.in-None.is (always c.push_row-in-None.result c.push_row-in-None.ensures.came)

pub returns-in-None-clause-rows : goal.returns-in-None-clause-rows
unfolding file_rows slice_rows
returns-in-None-clause-rows c = rw c.in-None.is c.push_row-in-None.ensures.rows

pub returns-in-None-clause-are_first : goal.returns-in-None-clause-are_first
returns-in-None-clause-are_first c =
    rw c.in-None.is (then_ok c.push_row-in-None.result c.push_row-in-None.ensures.rows (λ pushed records are_first.
    rw (c.push_row-in-None.ensures.came, c.push_row-in-None.ensures.first_rows, pushed) (first_known _ _ _ records _ _ are_first refl)))
