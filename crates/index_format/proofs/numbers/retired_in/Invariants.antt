use Rattle.std.proofs.Common.{◌≡◌, ◌≤◌, map, take}
use Rattle.index_format.specs.Entry.{entry_bytes}
use Rattle.index_format.specs.Text.{retired_in}
use Rattle.index_format.proofs.numbers.retired_in.Given as goal

abbrev pub invariant-counting : goal.invariant-counting
invariant-counting l = record {
  is : l.retired ≡ retired_in (take l.entry-index (map entry_bytes l.entries));
  few : l.retired ≤ l.entry-index;
}
