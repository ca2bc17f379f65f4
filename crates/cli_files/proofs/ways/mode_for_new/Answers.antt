use Rattle.std.proofs.Common.{◌≡◌, ◌∙◌, ◌++◌, ap}
use Rattle.cli_files.specs.FileCalls.{linked}
use Rattle.cli_files.proofs.Said.{absent_fails, leads_nowhere}
use Rattle.cli_files.proofs.ways.mode_for_new.Goals as goal

pub returns-then-is_empty-clause-said : goal.returns-then-is_empty-clause-said
returns-then-is_empty-clause-said g c = λ replaces before first kind.
    absent_fails replaces c.args.error c.args.path.now before c.args.calls.now.entries first kind

pub returns-then-is_link-clause-said : goal.returns-then-is_link-clause-said
returns-then-is_link-clause-said g c = λ replaces before first kind.
    leads_nowhere replaces c.args.error c.args.path.now before c.args.calls.now.entries c.is_link.new.calls.entries first
    (c.is_link.ensures ∙ ap (λ b. c.args.calls.now.entries ++ linked c.args.path.now b) c.if-is_link.true) kind
