use Rattle.std.proofs.Common.{◌≡◌, ◌++◌, length, string_bytes}
use Rattle.text_reports.specs.Finds.{groups_lines}
use Rattle.text_reports.proofs.finds.groups_lines.Given as goal

abbrev pub invariant-groups : goal.invariant-groups
invariant-groups l = string_bytes l.text ++ groups_lines l.form l.rest ≡ groups_lines l.form l.rows

abbrev pub decreases-groups : goal.decreases-groups
decreases-groups l = length l.rest
