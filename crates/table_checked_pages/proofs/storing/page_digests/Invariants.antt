use Rattle.std.proofs.Common.{◌≡◌}
use Rattle.table_checked_pages.specs.Pages.{digests_from}
use Rattle.table_checked_pages.proofs.storing.page_digests.Given as goal

abbrev pub invariant-pages : goal.invariant-pages
invariant-pages l = l.digests.items ≡ digests_from l.index 0 l.bytes
