use Rattle.std.proofs.Common.{◌≡◌, ◌∙◌, ap, length}
use Rattle.std.proofs.lemmas.Slice.Eq.{bytes_eq-Decides}
use Rattle.sha2.specs.Sha256.{sha256}
use Rattle.archive_core.specs.Key.{key_bytes}
use Rattle.archive_core.specs.Valid.{key_of}
use Rattle.archive_core.specs.declared.keys.SliceKey.{SliceKey}
use Rattle.archive_core.proofs.Records.{length-key_of}
use Rattle.archive_core.proofs.Answering.{is_key_of}
use Rattle.command_extract.proofs.Held.{same_slice}
use Rattle.command_extract.proofs.choosing.slice_in.Goals as goal
use Rattle.command_extract.proofs.choosing.slice_in.Goals.{else-is_key-via-then-is_key+else-eq, else-is_key-via-else-is_key}

pub returns-else-is_key-clause-none : goal.returns-else-is_key-clause-none
returns-else-is_key-clause-none c = λ slice is of digest_is.
    let same : c.in-Admit.slice ≡ slice =
    same_slice c.in-Admit.slice slice (length-key_of c.in-Admit.slice c.digest-found.ensures.valid)
    (ap (λ (k : SliceKey). length (key_bytes k)) of ∙ c.requires) (rw c.in-Admit.is at is) in
    let key_is : c.key.result ≡ c.args.key.now = c.key.ensures ∙ ap key_of same ∙ of in
    let found : c.digest-found.result.0 ≡ c.args.digest.now.0 =
    c.digest-found.ensures.digest ∙ ap sha256 same ∙ digest_is in
    elim c.else-is_key.branch [
      | else-is_key-via-then-is_key+else-eq w ↦ cc (w.if-eq.false, w.eq.ensures, (bytes_eq-Decides c.digest-found.result.0 c.args.digest.now.0).1 found)
      | else-is_key-via-else-is_key w ↦ cc (w.if-is_key.false, c.is_key.ensures, is_key_of _ _ key_is)
    ]
