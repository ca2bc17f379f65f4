use Rattle.table_source_frames_build.proofs.TakerLemmas.{takes_turn}
use Rattle.table_source_frames_build.proofs.sink.StoreSinkFrameSink.push.Goals as goal

pub returns-clause-taken : goal.returns-clause-taken
returns-clause-taken c = λ frames is.
    takes_turn c.args.self.now.store.taken c.add_frames.new.self.taken
    (record { address = c.args.address; frames = frames }) (c.in_ok-add_frames.ensures.added frames is)
