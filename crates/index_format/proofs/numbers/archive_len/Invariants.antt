use Rattle.std.proofs.Common.{◌≡◌, ◌+◌, ◌≤◌, ◌*◌, ◌^◌, take, map}
use Rattle.std.specs.List.{sum_by}
use Rattle.index_format.specs.Entry.{length_in}
use Rattle.index_format.specs.Entry.{entry_bytes}
use Rattle.index_format.proofs.numbers.archive_len.Given as goal

abbrev pub invariant-adding : goal.invariant-adding
invariant-adding l = record {
  is : l.len ≡ 17 + sum_by length_in (take l.entry-index (map entry_bytes l.entries));
  fits : l.len ≤ 17 + l.entry-index * 2 ^ 64;
}
