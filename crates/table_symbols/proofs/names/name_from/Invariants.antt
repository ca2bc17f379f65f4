use Rattle.std.proofs.Common.{◌≡◌, ◌==◌, ◌++◌, ◌-◌, ℕ, List, take, drop, Some}
use Rattle.std.specs.List.{before_first}
use Rattle.table_checked_pages.specs.Views.{ArePagesOf}
use Rattle.table_symbols.proofs.names.name_from.Given as goal

abbrev pub invariant-pieces : goal.invariant-pieces
invariant-pieces g l = record {
  claim : l.table.claim ≡ l.initial.table.claim;
  whole : g.P.Placed.whole l.device ≡ g.P.Placed.whole l.initial.device;
  unfailed : g.P.Placed.failures l.device ≡ g.P.Placed.failures l.initial.device;
  keeps : (text all : List ℕ) → g.P.Placed.whole l.initial.device ≡ Some text → ArePagesOf l.initial.table text all → ArePagesOf l.table text all;
  came : (text all : List ℕ) → g.P.Placed.whole l.initial.device ≡ Some text → ArePagesOf l.initial.table text all
      → before_first (λ b. b == 0) (drop l.offset (take l.size (drop l.first all)))
      ≡ l.name.items ++ before_first (λ b. b == 0) (drop l.at (take l.size (drop l.first all)));
}

abbrev pub decreases-pieces : goal.decreases-pieces
decreases-pieces g l = l.size - l.at
