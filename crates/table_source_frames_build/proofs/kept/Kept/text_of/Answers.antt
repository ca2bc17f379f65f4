use Rattle.std.proofs.Common.{[]}
use Rattle.table_source_frames_build.specs.declared.keys.TextKey.{TextKey}
use Rattle.table_source_frames_build.proofs.LoopLemmas.{told_at}
use Rattle.table_source_frames_build.proofs.kept.Kept.text_of.Goals as goal

pub returns : goal.returns
returns c = told_at (λ (t : TextKey). t.text.now) c.args.self.now.texts [] c.args.number c.key.result c.requires.some c.key.ensures
