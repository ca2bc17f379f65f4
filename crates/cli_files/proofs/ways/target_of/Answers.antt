use Rattle.cli_files.specs.FileCalls.{led, linked}
use Rattle.cli_files.proofs.Same.{led_probes, on_err, linked_probes, still_probes}
use Rattle.cli_files.proofs.ways.target_of.Goals as goal

pub returns-in_err-from_str-clause-refused : goal.returns-in_err-from_str-clause-refused
returns-in_err-from_str-clause-refused g c = λ asked. on_err c.from_residual.result
    (still_probes c.args.calls.now.entries (linked c.args.path.now c.is_link.result) c.is_link.new.calls.entries
    c.is_link.ensures (linked_probes c.args.path.now c.is_link.result) asked)

pub returns-in-Err-clause-refused : goal.returns-in-Err-clause-refused
returns-in-Err-clause-refused g c = λ asked.
    still_probes c.is_link.new.calls.entries (led c.args.path.now c.canonicalize.result) c.canonicalize.new.calls.entries
    c.canonicalize.ensures (led_probes c.args.path.now c.canonicalize.result)
    (still_probes c.args.calls.now.entries (linked c.args.path.now c.is_link.result) c.is_link.new.calls.entries
    c.is_link.ensures (linked_probes c.args.path.now c.is_link.result) asked)

pub returns-in-Err-2-clause-refused : goal.returns-in-Err-2-clause-refused
returns-in-Err-2-clause-refused g c = λ asked.
    still_probes c.is_link.new.calls.entries (led c.args.path.now c.canonicalize.result) c.canonicalize.new.calls.entries
    c.canonicalize.ensures (led_probes c.args.path.now c.canonicalize.result)
    (still_probes c.args.calls.now.entries (linked c.args.path.now c.is_link.result) c.is_link.new.calls.entries
    c.is_link.ensures (linked_probes c.args.path.now c.is_link.result) asked)
