use Rattle.std.proofs.Common.{length, ◌-◌, ◌+◌, ℕ, List}
use Rattle.table_checked_pages.specs.Pages.{AreKept}
use Rattle.table_checked_pages.specs.Views.{level_view}
use Rattle.table_checked_pages.proofs.level.Level.make_room.Given as goal

abbrev pub invariant-room : goal.invariant-room
invariant-room l = (all : List ℕ) → AreKept (level_view l.initial.self) all → AreKept (level_view l.self) all

abbrev pub decreases-room : goal.decreases-room
decreases-room l = l.index + 1 - length l.self.kept.items
