use Rattle.std.proofs.lemmas.List.Filters.{dedup_is}
use Rattle.dwarf_asked_addresses.proofs.RisingLemmas.{rises, same}
use Rattle.dwarf_asked_addresses.proofs.rising.sorted_once.Goals as goal

pub returns-clause-rising : goal.returns-clause-rising
returns-clause-rising c =
    rises _ _ _ c.sort_unstable.ensures.permutation c.sort_unstable.ensures.sorted (dedup_is _ _ _ c.dedup.ensures.filtered)

pub returns-clause-same : goal.returns-clause-same
returns-clause-same c =
    same _ _ _ c.sort_unstable.ensures.permutation c.sort_unstable.ensures.sorted (dedup_is _ _ _ c.dedup.ensures.filtered)
