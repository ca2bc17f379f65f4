use Rattle.std.proofs.Common.{◌-◌}
use Rattle.table_checked_pages.specs.Pages.{height}
use Rattle.table_checked_pages.proofs.pages.Pages.+bring.Given as goal

abbrev pub decreases-bring : goal.decreases-bring
decreases-bring g l = height l.self.now.claim.size - l.level
