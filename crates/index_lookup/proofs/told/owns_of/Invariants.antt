use Rattle.std.proofs.Common.{◌≡◌, List, ℕ, Some, map, take}
use Rattle.std.specs.List.{AllZip}
use Rattle.table_symbols.specs.Opened.{IsOpened, IsOpenedIn}
use Rattle.table_symbols.specs.Table.{TableParts}
use Rattle.index_lookup.specs.Views.{told_view}
use Rattle.index_lookup.specs.InnerAnswering.{IsOwnOpened}
use Rattle.index_lookup.proofs.told.owns_of.Given as goal

abbrev pub invariant-asked : goal.invariant-asked
invariant-asked g l = record {
  claim : l.table.pages.claim ≡ l.initial.table.pages.claim;
  whole : g.P.Placed.whole l.device ≡ g.P.Placed.whole l.initial.device;
  unfailed : g.P.Placed.failures l.device ≡ g.P.Placed.failures l.initial.device;
  keeps : (text : List ℕ) (t : TableParts) → g.P.Placed.whole l.initial.device ≡ Some text → IsOpened l.initial.table text t → IsOpened l.table text t;
  bytes : (text all : List ℕ) → g.P.Placed.whole l.initial.device ≡ Some text → IsOpenedIn l.initial.table text all → IsOpenedIn l.table text all;
  told : (text : List ℕ) → g.P.Placed.whole l.initial.device ≡ Some text
      → AllZip (IsOwnOpened l.initial.table text) (take l.place-index l.asked) (map told_view l.owns.items);
}
