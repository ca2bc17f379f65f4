use Rattle.std.proofs.Common.{ℕ, List}
use Rattle.sha2.specs.Sha256.{sha256}
use Rattle.sha2.proofs.Facts256.{length-sha256}
use Rattle.archive_core.specs.Record.{retirement_record}
use Rattle.archive_core.proofs.Retired.{nothing_there}
use Rattle.archive_core.proofs.retirements.Retirements.covers.Goals as goal

pub returns-then-not-has_key-clause-covers : goal.returns-then-not-has_key-clause-covers
returns-then-not-has_key-clause-covers c =
    let digest : List ℕ = sha256 c.args.slice.now in
    let none = nothing_there c.args.self.now (retirement_record c.key-key.result digest) c.has_key.result
    (c.has_key.ensures digest (length-sha256 c.args.slice.now)) c.if-not-has_key.true in
    cc (none, c.key-key.ensures)

pub returns-clause-covers : goal.returns-clause-covers
returns-clause-covers c = cc (c.contains.ensures, c.retirement_bytes.ensures, c.key-key.ensures, c.digest.ensures.digest, c.keep_digest.ensures)
