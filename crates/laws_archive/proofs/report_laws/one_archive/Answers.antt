use Rattle.archive_core.specs.Find.{IsFinds}
use Rattle.command_queries.specs.Name.{TellsNamed}
use Rattle.command_queries.specs.Frames.{TellsFramesWith}
use Rattle.command_queries.specs.Symbolicate.{TellsAddressesWith}
use Rattle.laws_archive.proofs.Joins.{alone_held}
use Rattle.laws_archive.proofs.report_laws.one_archive.Goals as goal

pub returns : goal.returns
returns g c = record {
  find = λ archive uuid status text. (
    λ t.
        let held = (alone_held archive (λ o. IsFinds o uuid t.rows)).0 t.have in
        record {
          content = held.content;
          is_content = held.is_content;
          text = held.text;
          is_true = record { rows = t.rows; have = held.is_true; status_is = t.status_is; text_is = t.text_is };
        },
    λ t. record {
      rows = t.is_true.rows;
      have = (alone_held archive (λ o. IsFinds o uuid t.is_true.rows)).1
          (record { content = t.content; is_content = t.is_content; text = t.text; is_true = t.is_true.have });
      status_is = t.is_true.status_is;
      text_is = t.is_true.text_is;
    },
  );
  name = λ archive sought status text. alone_held archive (λ o. TellsNamed o sought status text);
  symbolicate = λ archive key load lines slices addresses status text. alone_held archive
      (λ o. TellsAddressesWith o key load lines slices addresses status text);
  frames = λ lines slices input archive status text. (
    λ t. (t.listed, t.frames_are, (alone_held archive (λ o. TellsFramesWith lines slices o t.listed status text)).0 t.tells),
    λ t. record { listed = t.0; frames_are = t.1; tells = (alone_held archive (λ o. TellsFramesWith lines slices o t.0 status text)).1 t.2 },
  );
}
