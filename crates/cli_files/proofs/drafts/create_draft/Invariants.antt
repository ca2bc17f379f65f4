use Rattle.std.proofs.Common.{string_bytes}
use Rattle.cli_files.proofs.DraftNames.{Tried}
use Rattle.cli_files.proofs.drafts.create_draft.Given as goal

abbrev pub invariant-names : goal.invariant-names
invariant-names g l = Tried l.process (string_bytes l.target) l.initial.calls.entries l.calls.entries l.number
