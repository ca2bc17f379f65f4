use Rattle.std.proofs.Common.{◌≡◌, length}
use Rattle.std.specs.List.{AllByRecursion, filter_map}
use Rattle.macho_symbols.specs.Nlist.{IsEntry}
use Rattle.macho_symbols.specs.Symbols.{candidate_in}
use Rattle.macho_symbols.specs.Found.{named_among}
use Rattle.macho_symbols.proofs.named.NamedIterator.next.Given as goal

abbrev pub invariant-entries : goal.invariant-entries
invariant-entries l = record {
  same : named_among l.self-inside.scan l.self-inside.name.now (filter_map (candidate_in l.self-inside.scan) l.self-inside.entries) ≡ l.fn.self;
  each : AllByRecursion IsEntry l.self-inside.entries;
}

abbrev pub decreases-entries : goal.decreases-entries
decreases-entries l = length l.self-inside.entries
