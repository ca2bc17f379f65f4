use Rattle.std.proofs.Common.{arith}
use Rattle.archive_records.proofs.Forms.{tagged_is, other_tag}
use Rattle.archive_records.proofs.entry.entry_in.Goals as goal

pub key_in-key-requires : goal.key_in-key-requires
key_in-key-requires c = omega (arith, c.requires.long)

pub digest_in-digest-requires : goal.digest_in-digest-requires
digest_in-digest-requires c = omega (arith, c.requires.long)

pub returns-then-bytes-eq-RETIREMENT : goal.returns-then-bytes-eq-RETIREMENT
returns-then-bytes-eq-RETIREMENT c =
    tagged_is 1 c.args.bytes.now c.key_in-key.result c.digest_in-digest.result.0 c.requires.long
    c.if-bytes-eq-RETIREMENT.true c.key_in-key.ensures.bytes c.digest_in-digest.ensures

pub returns-else-bytes-eq-RETIREMENT : goal.returns-else-bytes-eq-RETIREMENT
returns-else-bytes-eq-RETIREMENT c =
    tagged_is 2 c.args.bytes.now c.key_in-key.result c.digest_in-digest.result.0 c.requires.long
    (other_tag c.args.bytes.now c.requires c.if-bytes-eq-RETIREMENT.false) c.key_in-key.ensures.bytes
    c.digest_in-digest.ensures
