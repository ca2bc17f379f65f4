use Rattle.std.proofs.Common.{◌∙◌}
use Rattle.cli_standard_error.proofs.Beginning.{alike}
use Rattle.cli_standard_error.proofs.file_kinds.kind_among.Goals as goal

pub returns : goal.returns
returns c = c.first_kind.ensures ∙ alike c.args.bytes.now c.args.beginnings.now
