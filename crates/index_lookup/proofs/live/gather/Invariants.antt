use Rattle.std.proofs.Common.{◌≡◌, ◌++◌, map, not, take}
use Rattle.std.specs.Prelude.{filter}
use Rattle.index_format.specs.Entry.{entry_bytes}
use Rattle.index_lookup.specs.InnerAnswering.{entry_at, is_retired}
use Rattle.index_lookup.proofs.RunLemmas.{placed_at}
use Rattle.index_lookup.proofs.live.gather.Given as goal

abbrev pub invariant-run : goal.invariant-run
invariant-run l = map entry_at l.live.items ≡ map entry_at l.initial.live.items
    ++ filter (λ x. not (is_retired l.retired x.entry)) (take l.nth (placed_at l.input l.numbers (map entry_bytes l.entries)))
