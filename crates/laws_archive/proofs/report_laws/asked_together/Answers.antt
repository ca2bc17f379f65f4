use Rattle.archive_core.specs.Find.{IsFinds}
use Rattle.command_queries.specs.Name.{TellsNamed}
use Rattle.command_queries.specs.Frames.{TellsFramesWith}
use Rattle.command_queries.specs.Symbolicate.{TellsAddressesWith}
use Rattle.laws_archive.proofs.Joins.{as_merged}
use Rattle.laws_archive.proofs.report_laws.asked_together.Goals as goal

pub returns : goal.returns
returns g c = record {
  find = λ archive others file uuid m status text. (
    λ t. record {
      rows = t.rows;
      have = (as_merged archive others file m (λ p. IsFinds p uuid t.rows)).0 t.have;
      status_is = t.status_is;
      text_is = t.text_is;
    },
    λ t. record {
      rows = t.rows;
      have = (as_merged archive others file m (λ p. IsFinds p uuid t.rows)).1 t.have;
      status_is = t.status_is;
      text_is = t.text_is;
    },
  );
  name = λ archive others file sought m status text. as_merged archive others file m (λ p. TellsNamed p sought status text);
  symbolicate = λ archive others file key load lines slices addresses m status text.
      as_merged archive others file m (λ p. TellsAddressesWith p key load lines slices addresses status text);
  frames = λ lines slices input archive others file m status text. (
    λ t. record {
      listed = t.listed;
      frames_are = t.frames_are;
      tells =
          (as_merged archive others file m (λ p. TellsFramesWith lines slices p t.listed status text)).0 t.tells;
    },
    λ t. record {
      listed = t.listed;
      frames_are = t.frames_are;
      tells =
          (as_merged archive others file m (λ p. TellsFramesWith lines slices p t.listed status text)).1 t.tells;
    },
  );
}
