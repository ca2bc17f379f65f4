use Rattle.std.proofs.Common.{length}
use Rattle.table_checked_pages.proofs.storing.+store.Given as goal

abbrev pub decreases-store : goal.decreases-store
decreases-store l = length l.bytes.items
