use Rattle.std.proofs.Common.{◌∙◌, ap}
use Rattle.sha2.specs.Sha256.{sha256}
use Rattle.archive_core.specs.Content.{changes}
use Rattle.archive_core.specs.Record.{admission_record}
use Rattle.archive_image_admission.proofs.Rows.{row_of}
use Rattle.archive_image_admission.proofs.taking.take_slice.Goals as goal

pub returns-clause-row : goal.returns-clause-row
returns-clause-row g c =
    let digest = c.digest-digest.ensures.digest ∙ ap sha256 c.keep_digest.ensures in
    let changed = c.in_ok-changed.ensures.answer ∙ ap (λ slice. changes (g.A.Join.content c.args.archive.now) (admission_record slice)) c.keep_digest.ensures in
    row_of _ _ c.in_ok-changed.changed c.key-key.result c.digest-digest.result c.taken_if.result c.taken_if.ensures c.key-key.ensures digest changed
