use Rattle.std.proofs.Common.{◌≡◌, Contains, ℕ, List, take}
use Rattle.sha2.specs.Sha256.{sha256}
use Rattle.join_core.specs.Listing.{listing}
use Rattle.archive_core.specs.Record.{admission_record}
use Rattle.archive_core.specs.Valid.{key_of}
use Rattle.command_extract.proofs.choosing.held_with.Given as goal

-- none of the records so far is of such a slice
abbrev pub invariant-records : goal.invariant-records
invariant-records g l = (slice : List ℕ) → key_of slice ≡ l.key → sha256 slice ≡ l.digest.0
    → Contains (take l.number (listing (g.A.Join.content l.archive))) (admission_record slice) → ⊥
