use Rattle.std.proofs.Common.{codes}
use Rattle.cli_standard_error.proofs.Reasons.{behind_front, other_front}
use Rattle.cli_standard_error.proofs.ending.after_error.Goals as goal

pub returns-in-Some : goal.returns-in-Some
returns-in-Some c =
    let found = c.in-Some.ensures.cases in
    behind_front (codes "error: ") c.args.text.now c.in-Some.reason.now found.0 found.1 found.2

pub returns-in-None : goal.returns-in-None
returns-in-None c = other_front (codes "error: ") c.args.text.now c.in-None.ensures.cases
