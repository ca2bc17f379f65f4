use Rattle.std.proofs.Common.{◌≡◌, ℕ, ◌≤◌, Bool, List, Some}
use Rattle.std.specs.List.Sorted.{IsStrictlySortedBy}
use Rattle.std.specs.Ordering.{nat_cmp}
use Rattle.std.specs.Cmp.Lexicographic.{slice_cmp}
use Rattle.table_checked_pages.specs.Views.{ArePagesOf}
use Rattle.index_format.specs.InnerPaged.{AreRead, AreSought, bytes_of, numbers_of}
use Rattle.index_format.specs.Paged.{FillBytes}
use Rattle.index_format.specs.Spread.{AreNumbers}
use Rattle.index_format.proofs.ReadRuns.{AreWalked}
use Rattle.index_format.proofs.paged_entries.read_tagged.Given as goal

abbrev pub invariant-uuids : goal.invariant-uuids
invariant-uuids g l = record {
  least : l.from ≤ l.next;
  most : l.next ≤ l.to;
  claim : l.pages.claim ≡ l.initial.pages.claim;
  whole : g.P.Placed.whole l.device ≡ g.P.Placed.whole l.initial.device;
  unfailed : g.P.Placed.failures l.device ≡ g.P.Placed.failures l.initial.device;
  keeps : (text all : List ℕ) → g.P.Placed.whole l.initial.device ≡ Some text → ArePagesOf l.initial.pages text all → ArePagesOf l.pages text all;
  numbers : AreNumbers l.next (numbers_of l.read.items);
  walked : (text all : List ℕ) (entries : List (List ℕ)) (passes : List ℕ → Bool) → g.P.Placed.whole l.initial.device ≡ Some text
      → ArePagesOf l.initial.pages text all → FillBytes entries l.count all → IsStrictlySortedBy (slice_cmp nat_cmp) entries
      → AreSought passes l.tag l.uuids entries l.from l.to → AreRead passes entries l.initial.read.items
      → AreWalked passes l.tag l.uuids entries l.uuid-index l.next (numbers_of l.read.items) (bytes_of l.read.items);
}
