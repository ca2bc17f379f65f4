use Rattle.std.proofs.Common.{◌≡◌, ◌++◌, map, take}
use Rattle.index_format.specs.Entry.{entry_bytes}
use Rattle.index_lookup.specs.Among.{subject_of}
use Rattle.index_lookup.proofs.retired.gather.Given as goal

abbrev pub invariant-run : goal.invariant-run
invariant-run l = l.retired.items ≡ l.initial.retired.items ++ map subject_of (take l.entry-index (map entry_bytes l.entries))
