use Rattle.std.proofs.Common.{length, ◌-◌, ◌≡◌, ◌+◌, ◌≤◌, ◌<◌, ℕ, List, Some, take, drop}
use Rattle.table_checked_pages.specs.Views.{ArePagesOf}
use Rattle.table_checked_pages.proofs.pages.Pages.read.Given as goal

abbrev pub invariant-pages : goal.invariant-pages
invariant-pages g l = record {
  within : l.done ≤ length l.initial.buf;
  inside : 0 < l.done → l.offset + l.done ≤ l.initial.self.claim.size;
  claim : l.self.claim ≡ l.initial.self.claim;
  whole : g.P.Placed.whole l.device ≡ g.P.Placed.whole l.initial.device;
  unfailed : g.P.Placed.failures l.device ≡ g.P.Placed.failures l.initial.device;
  keeps : (text all : List ℕ) → g.P.Placed.whole l.initial.device ≡ Some text → ArePagesOf l.initial.self text all → ArePagesOf l.self text all;
  came : (text all : List ℕ) → g.P.Placed.whole l.initial.device ≡ Some text → ArePagesOf l.initial.self text all
      → take l.done l.buf ≡ take l.done (drop l.offset all);
}

abbrev pub decreases-pages : goal.decreases-pages
decreases-pages g l = length l.initial.buf - l.done
