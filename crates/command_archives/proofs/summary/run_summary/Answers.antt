use Rattle.std.proofs.Common.{refl}
use Rattle.command_common.proofs.Endings.{given_out}
use Rattle.command_archives.proofs.summary.run_summary.Goals as goal

pub returns-clause-ends : goal.returns-clause-ends
returns-clause-ends g c =
    given_out _ _ _ _ _ c.publish_summary.result _ _ c.in_ok-summary.ensures.summarizes.unfailed
    (record {
      summary = c.in_ok-summary.summary;
      have = c.in_ok-summary.ensures.summarizes.is;
      text_is = refl;
      told_is = refl;
    })
    c.publish_summary.ensures
