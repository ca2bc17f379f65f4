use Rattle.std.proofs.Common.{◌≡◌, ◌∙◌, List, ℕ, subst}
use Rattle.archive_core.proofs.Records.{length-key_of}
use Rattle.command_common.specs.Outputs.{writer}
use Rattle.command_extract.specs.InnerSteps.{SendsBytes}
use Rattle.command_extract.proofs.Held.{same_slice}
use Rattle.command_extract.proofs.kept.send_kept.Goals as goal

pub returns : goal.returns
returns g c = λ slice at.
    let same : c.in-Admit.slice ≡ slice =
    same_slice c.in-Admit.slice slice (length-key_of c.in-Admit.slice c.bytes.ensures.valid) at.long
    (rw c.in-Admit.is at (c.record_at.ensures ∙ at.record_is)) in
    subst (λ (bytes : List ℕ). SendsBytes bytes (writer g.W.Sink.held g.W.Sink.failures c.args.draft.now c.send_bytes.new.draft) c.send_bytes.result)
    (c.bytes.ensures.bytes ∙ same) c.send_bytes.ensures
