use Rattle.std.proofs.Common.{◌≡◌, List, ℕ, Some, map, take}
use Rattle.std.specs.List.{AllZip}
use Rattle.table_checked_pages.specs.Views.{ArePagesOf}
use Rattle.index_lookup.specs.InnerAnswering.{AreFramesOpened}
use Rattle.index_lookup.specs.Views.{list_in}
use Rattle.index_lookup.proofs.lines.frames_of_each.Given as goal

abbrev pub invariant-asked : goal.invariant-asked
invariant-asked g l = record {
  claim : l.pages.claim ≡ l.initial.pages.claim;
  whole : g.P.Placed.whole l.device ≡ g.P.Placed.whole l.initial.device;
  unfailed : g.P.Placed.failures l.device ≡ g.P.Placed.failures l.initial.device;
  keeps : (text all : List ℕ) → g.P.Placed.whole l.initial.device ≡ Some text → ArePagesOf l.initial.pages text all → ArePagesOf l.pages text all;
  told : (text : List ℕ) → g.P.Placed.whole l.initial.device ≡ Some text
      → AllZip (AreFramesOpened l.table l.initial.pages l.base text) (take l.place-index l.asked)
      (map list_in l.lists.items);
}
