use Rattle.std.proofs.Common.{◌≡◌, take, map}
use Rattle.std.specs.List.{concat}
use Rattle.index_format.specs.Entry.{entry_bytes}
use Rattle.index_build.proofs.entries.joined.Given as goal

abbrev pub invariant-joining : goal.invariant-joining
invariant-joining l = l.bytes.items ≡ concat (take l.entry-index (map entry_bytes l.entries))
