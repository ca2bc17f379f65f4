use Rattle.std.proofs.Common.{refl, ◌∙◌}
use Rattle.command_queries.proofs.AnswersWithFrames.{places_found}
use Rattle.command_queries.proofs.source_frames.SlicedFrames.of.Goals as goal

pub returns-clause-frames : goal.returns-clause-frames
returns-clause-frames c =
    places_found c.args.slice.now _ c.args.places.now (record { slice = c.args.slice; frames = c.in_ok-frames.frames })
    c.deref.result.now refl c.image.ensures (c.deref.ensures.value ∙ c.in_ok-addresses.ensures)
    c.in_ok-frames.ensures
