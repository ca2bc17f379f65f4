use Rattle.std.proofs.Common.{map, take}
use Rattle.std.specs.List.{AllZip}
use Rattle.index_lookup.specs.InnerAnswering.{entry_at}
use Rattle.index_lookup.specs.Named.{Names}
use Rattle.index_lookup.proofs.named.named_by_each.Given as goal

abbrev pub invariant-entries : goal.invariant-entries
invariant-entries l = AllZip Names (take l.numbered-index (map entry_at l.entries)) l.named.items
