use Rattle.std.proofs.Common.{length, ◌-◌, ◌+◌, ◌≡◌, ℕ, List}
use Rattle.table_checked_pages.specs.Pages.{AreKeptLevels}
use Rattle.table_checked_pages.specs.Views.{kept_view}
use Rattle.table_checked_pages.proofs.pages.Pages.make_level.Given as goal

abbrev pub invariant-room : goal.invariant-room
invariant-room l = record {
  claim : l.self.claim ≡ l.initial.self.claim;
  keeps : (all : List ℕ) → AreKeptLevels (kept_view l.initial.self) all → AreKeptLevels (kept_view l.self) all;
}

abbrev pub decreases-room : goal.decreases-room
decreases-room l = l.level + 1 - length l.self.levels.items
