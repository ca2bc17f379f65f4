use Rattle.std.proofs.Common.{◌≢◌, map, take}
use Rattle.std.specs.Prelude.{Contains}
use Rattle.index_lookup.specs.Among.{EntryAt}
use Rattle.index_lookup.specs.InnerAnswering.{entry_at}
use Rattle.index_lookup.specs.Named.{digest_at}
use Rattle.index_lookup.proofs.named.first_with.Given as goal

-- none of the entries so far has the digest
abbrev pub invariant-live : goal.invariant-live
invariant-live l = (x : EntryAt) → Contains (take l.numbered-index (map entry_at l.live)) x → digest_at x ≢ l.digest.0
