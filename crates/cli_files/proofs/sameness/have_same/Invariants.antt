use Rattle.std.proofs.Common.{◌≡◌}
use Rattle.cli_files.proofs.Same.{GaveSame}
use Rattle.cli_files.proofs.sameness.have_same.Given as goal

abbrev pub decreases-pieces : goal.decreases-pieces
decreases-pieces g l = l.left

abbrev pub invariant-pieces : goal.invariant-pieces
invariant-pieces g l =
    (l.first.path.now ≡ l.initial.first.path.now) × (l.second.path.now ≡ l.initial.second.path.now)
    × GaveSame l.initial.first.path.now l.initial.second.path.now l.count l.left l.initial.calls.entries l.calls.entries
