use Rattle.std.proofs.Common.{◌≡◌, ℕ, ◌-◌, ◌≤◌, List, ◌++◌, Some, take, drop}
use Rattle.std.specs.List.{range_with_len}
use Rattle.table_checked_pages.specs.Views.{ArePagesOf}
use Rattle.index_format.specs.InnerPaged.{bytes_of, numbers_of}
use Rattle.index_format.specs.Paged.{FillBytes}
use Rattle.index_format.proofs.paged_entries.read_run.Given as goal

abbrev pub invariant-run : goal.invariant-run
invariant-run g l = record {
  claim : l.pages.claim ≡ l.initial.pages.claim;
  whole : g.P.Placed.whole l.device ≡ g.P.Placed.whole l.initial.device;
  unfailed : g.P.Placed.failures l.device ≡ g.P.Placed.failures l.initial.device;
  keeps : (text all : List ℕ) → g.P.Placed.whole l.initial.device ≡ Some text → ArePagesOf l.initial.pages text all → ArePagesOf l.pages text all;
  least : l.start ≤ l.number;
  last : l.number - l.start ≤ l.stop - l.start;
  numbers : numbers_of l.read.items ≡ numbers_of l.initial.read.items ++ range_with_len l.start (l.number - l.start);
  entries : (text all : List ℕ) (entries : List (List ℕ)) (count : ℕ) → g.P.Placed.whole l.initial.device ≡ Some text
      → ArePagesOf l.initial.pages text all → FillBytes entries count all → l.stop ≤ count
      → bytes_of l.read.items ≡ bytes_of l.initial.read.items ++ take (l.number - l.start) (drop l.start entries);
}
