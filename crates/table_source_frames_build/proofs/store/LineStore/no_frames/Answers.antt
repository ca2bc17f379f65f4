use Rattle.table_source_frames_build.proofs.StoreLemmas.{no_frames_located}
use Rattle.table_source_frames_build.proofs.store.LineStore.no_frames.Goals as goal

pub returns : goal.returns
returns c = no_frames_located c.args.self.now.kept
