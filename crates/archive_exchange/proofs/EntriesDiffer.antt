-- If no two different issued slices have the same SHA-256, no two different issued operations have the same entry.
use Rattle.std.proofs.Common.{ℕ, List, subst}
use Rattle.archive_core.proofs.Entries.{entry_tells}
use Rattle.archive_exchange.specs.World.{Event}
use Rattle.archive_exchange.specs.Issued.{IsIssued, EntriesDiffer, AreRecords, DigestsDiffer}

pub telling : {F : Type 0} (sites : ℕ) (events : List (Event F)) → AreRecords sites events → DigestsDiffer sites events → EntriesDiffer sites events
telling sites events are digests r s in_r in_s e =
    entry_tells r s (are r in_r) (are s in_s) e (λ a b is_a is_b. digests a b (subst (IsIssued sites events) is_a in_r)
    (subst (IsIssued sites events) is_b in_s))
