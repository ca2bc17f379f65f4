use Rattle.table_source_frames_build.proofs.TakerLemmas.{takes_none}
use Rattle.table_source_frames_build.proofs.sink.StoreSinkFrameSink.name.Goals as goal

pub returns-clause-names : goal.returns-clause-names
returns-clause-names c = c.name.ensures.tells.names

pub returns-clause-paths : goal.returns-clause-paths
returns-clause-paths c = c.name.ensures.tells.paths

pub returns-clause-frames : goal.returns-clause-frames
returns-clause-frames c = λ number frames. c.name.ensures.tells.frames number frames

pub returns-clause-taken : goal.returns-clause-taken
returns-clause-taken c = takes_none c.args.self.now.store.taken c.name.new.self.taken c.name.ensures.taken
