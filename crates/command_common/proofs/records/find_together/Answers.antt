use Rattle.std.proofs.Common.{ap, ◌∙◌, arith}
use Rattle.archive_core.specs.Part.{is_under}
use Rattle.archive_core.proofs.Picked.{finds_alike}
use Rattle.command_common.proofs.Parts.{together_tells}
use Rattle.command_common.proofs.records.find_together.Goals as goal

pub returns : goal.returns
returns g c = record {
  is = together_tells _ _ _ _ (λ o alike. finds_alike (g.A.Join.content c.in_ok-kept.kept) o c.args.uuid.now _
      (alike c.args.uuid.now (omega (arith, c.uuid_bytes-prefix.ensures.long))
      (λ r h. ap (λ prefix. is_under prefix r) c.uuid_bytes-prefix.ensures.bytes ∙ h)) c.in_ok-find.ensures) c.in_ok-kept.ensures.is;
  unfailed = c.in_ok-kept.ensures.unfailed;
}
