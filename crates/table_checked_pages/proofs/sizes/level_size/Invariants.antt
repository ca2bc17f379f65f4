use Rattle.std.proofs.Common.{◌-◌, ◌≡◌, ◌≤◌, ◌<◌, ◌^◌}
use Rattle.table_checked_pages.specs.Pages.{level_size}
use Rattle.table_checked_pages.proofs.sizes.level_size.Given as goal

abbrev pub invariant-up : goal.invariant-up
invariant-up l = record {
  is : l.here ≡ level_size l.k l.size;
  most : l.k ≤ l.level;
  fits : l.here < 2 ^ 64;
}

abbrev pub decreases-up : goal.decreases-up
decreases-up l = l.level - l.k
