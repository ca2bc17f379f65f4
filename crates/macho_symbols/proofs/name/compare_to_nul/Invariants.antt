use Rattle.std.proofs.Common.{◌≡◌, ◌<◌, ◌≤◌, ◌==◌, length}
use Rattle.std.specs.List.{before_first}
use Rattle.std.specs.Ordering.{nat_cmp}
use Rattle.std.specs.Cmp.Lexicographic.{slice_cmp}
use Rattle.macho_symbols.proofs.name.compare_to_nul.Given as goal

abbrev pub invariant-pieces : goal.invariant-pieces
invariant-pieces l = record {
  same : slice_cmp nat_cmp (before_first (λ b. b == 0) l.own) (before_first (λ b. b == 0) l.others)
      ≡ slice_cmp nat_cmp (before_first (λ b. b == 0) l.name) (before_first (λ b. b == 0) l.other);
  some : 0 < l.size;
  most : l.size ≤ 4096;
}

abbrev pub decreases-pieces : goal.decreases-pieces
decreases-pieces l = length l.own
