use Rattle.std.proofs.Common.{◌≡◌, map, take}
use Rattle.std.specs.Prelude.{filter}
use Rattle.index_lookup.specs.InnerAnswering.{all_at, entry_at, lives_by}
use Rattle.index_lookup.proofs.live.live_besides.Given as goal

abbrev pub invariant-indexes : goal.invariant-indexes
invariant-indexes l = map entry_at l.live.items ≡ filter (λ x. lives_by l.prefix l.retired x.entry) (all_at 0 (take l.input l.indexes))
