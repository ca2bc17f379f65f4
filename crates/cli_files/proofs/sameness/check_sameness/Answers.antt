use Rattle.cli_files.proofs.Same.{other_probes}
use Rattle.cli_files.proofs.sameness.check_sameness.Goals as goal

pub returns-in-Ok-false-clause-refused : goal.returns-in-Ok-false-clause-refused
returns-in-Ok-false-clause-refused g c =
    let other = c.in-Ok-false.ensures.differs c.in-Ok-false.field-0-test in
    (other.0, other_probes c.args.draft.now c.args.target.now other.0 other.1, other.2)
