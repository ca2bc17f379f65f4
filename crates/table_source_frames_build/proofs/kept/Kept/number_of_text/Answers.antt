use Rattle.std.proofs.Common.{refl}
use Rattle.table_source_frames_build.specs.KeptViews.{kept_view}
use Rattle.table_source_frames_build.proofs.KeyLemmas.{text_found}
use Rattle.table_source_frames_build.proofs.kept.Kept.number_of_text.Goals as goal

pub returns : goal.returns
returns c =
    text_found (kept_view c.args.self.now) c.args.self.now.texts c.of.result c.args.text.now c.find.result refl c.of.ensures c.find.ensures
