use Rattle.std.proofs.Common.{arith}
use Rattle.command_queries.proofs.AnswersWithFrames.{frames_more, slices_more}
use Rattle.command_queries.proofs.source_frames.SourceFrames.of.Goals as goal

pub slices-preserved : goal.slices-preserved
slices-preserved g c =
    let it = c.in_ok-of.field-0 in
    record {
      slices = slices_more c.slices.found.items _ c.deref-slice-items.result.now c.slices.slice-index it
          c.slice-item.result (omega arith) c.slice-item.is c.in_ok-push.ensures.items c.in_ok-of.ensures.slice
          c.slices.invariant.slices;
      frames = λ place there. frames_more place c.slices.found.items _ it c.slice-item.result.now
          c.in_ok-push.ensures.items c.in_ok-of.ensures.slice (c.slices.invariant.frames place there)
          (c.in_ok-of.ensures.frames place there);
    }
