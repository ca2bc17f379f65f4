use Rattle.table_source_frames_build.proofs.laws.table_by_turns.Goals as goal

pub returns : goal.returns
returns c = λ image turns bytes are written.
    record { steps = written.0; are_steps = c.steps_by_turns.ensures image turns written.0 are written.1; is_text = written.2 }
