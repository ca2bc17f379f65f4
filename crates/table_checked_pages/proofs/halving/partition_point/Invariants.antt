use Rattle.std.proofs.Common.{◌≡◌, ℕ, ◌-◌, ◌<◌, ◌≤◌, List, Some}
use Rattle.table_checked_pages.specs.Views.{ArePagesOf}
use Rattle.table_checked_pages.proofs.halving.partition_point.Given as goal

abbrev pub invariant-halving : goal.invariant-halving
invariant-halving g l = record {
  least : l.from ≤ l.low;
  few : l.low ≤ g.S.Sought.count l.sought;
  most : l.high ≤ l.to;
  within : l.from ≤ l.to → l.low ≤ l.high;
  claim : l.pages.claim ≡ l.initial.pages.claim;
  whole : g.P.Placed.whole l.device ≡ g.P.Placed.whole l.initial.device;
  unfailed : g.P.Placed.failures l.device ≡ g.P.Placed.failures l.initial.device;
  keeps : (text all : List ℕ) → g.P.Placed.whole l.initial.device ≡ Some text → ArePagesOf l.initial.pages text all → ArePagesOf l.pages text all;
  before : (text all : List ℕ) (rows : g.S.Sought.Rows) → g.P.Placed.whole l.initial.device ≡ Some text
      → ArePagesOf l.initial.pages text all → g.S.Sought.stand l.sought rows all
      → l.from < l.low → g.S.Sought.is_below l.sought rows (l.low - 1);
  at : (text all : List ℕ) (rows : g.S.Sought.Rows) → g.P.Placed.whole l.initial.device ≡ Some text
      → ArePagesOf l.initial.pages text all → g.S.Sought.stand l.sought rows all
      → l.high < l.to → g.S.Sought.is_below l.sought rows l.high → ⊥;
}

abbrev pub decreases-halving : goal.decreases-halving
decreases-halving g l = l.high - l.low
