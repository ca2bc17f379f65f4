use Rattle.std.proofs.Common.{◌≡◌, ◌+◌, ◌<◌, ◌^◌}
use Rattle.table_checked_pages.specs.Pages.{digests_size}
use Rattle.table_checked_pages.proofs.sizes.digests_len.Given as goal

abbrev pub invariant-up : goal.invariant-up
invariant-up l = record {
  is : l.len + digests_size l.here ≡ digests_size l.size;
  fits : l.here < 2 ^ 64;
}

abbrev pub decreases-up : goal.decreases-up
decreases-up l = l.here
