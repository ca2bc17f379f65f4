use Rattle.std.proofs.Common.{refl}
use Rattle.command_common.proofs.Parts.{wanting_first}
use Rattle.command_frames.proofs.SlicesTold.{content_tells, frames_after}
use Rattle.command_frames.proofs.records.read_and_answer_with_slices.Goals as goal

pub returns-in_err-uuids : goal.returns-in_err-uuids
returns-in_err-uuids g c = wanting_first _ _ _ _ _ _ c.from_residual.ensures.1 refl

pub returns : goal.returns
returns g c =
    let keys = c.args.keys.now in
    let uuids = c.in_ok-uuids.uuids.items in
    let kept = g.A.Join.content c.in_ok-kept.kept in
    record {
      is = content_tells _ _ _ _ (λ o content alike. frames_after c.args.lines kept o c.args.frames.now keys uuids _ _
          content c.requires.under c.requires.keyed c.in_ok-uuids.ensures.are (rw c.deref.ensures.value at alike)
          (rw c.deref-2.ensures.value at c.in_ok-told.ensures)) c.in_ok-kept.ensures.is;
      unfailed = c.in_ok-kept.ensures.unfailed;
    }
