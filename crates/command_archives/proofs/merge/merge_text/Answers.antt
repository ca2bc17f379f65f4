use Rattle.std.proofs.Common.{Some, ap, inl, refl, ◌∙◌}
use Rattle.archive_records.proofs.Blamed.{failed}
use Rattle.archive_records.specs.Text.{written}
use Rattle.byte_device.proofs.Known.{Appends-none}
use Rattle.command_archives.specs.Joining.{MakesJoined}
use Rattle.command_archives.proofs.Streamed.{join_published, join_stopped}
use Rattle.command_archives.proofs.merge.merge_text.Goals as goal

pub returns-in_err-sizes : goal.returns-in_err-sizes
returns-in_err-sizes g c = λ p content is.
    let given = c.new-other.ensures.left ∙ ap Some is in
    let stopped = c.in_err-sizes.ensures.1 p (record {
      is_content = content;
      text = written p;
      is_text = inl refl;
      bytes = given;
      unfailed_before = c.new-other.ensures.failures;
      unfailed = refl;
    }) in
    rw (failed c.from_residual.result _ c.from_residual.ensures.1)
    (join_stopped _ p (λ input. MakesJoined input p) (λ input o lines m. (m.before, m.is_content, m.archive, m.content_is)) _ _ _
    stopped.0 stopped.1 c.in_err-sizes.ensures.0 (refl, refl) (Appends-none _, refl))

pub returns : goal.returns
returns g c = λ p content is.
    let given = c.new-other.ensures.left ∙ ap Some is in
    let j = c.in_ok-sizes.ensures p (record {
      is_content = content;
      text = written p;
      is_text = inl refl;
      bytes = given;
      unfailed_before = c.new-other.ensures.failures;
      unfailed = refl;
    }) in
    join_published _ p (λ input. MakesJoined input p) _ _ j _
    (record {
      before = j.content;
      is_content = j.is_content;
      archive = j.archive;
      content_is = refl;
      lines_are =
          c.new.ensures.bytes;
    }) _ _ c.publish_draft.result
    (c.publish_draft.ensures c.args.out.now.draft _ (j.written_is.written, j.written_is.unfailed) j.written_is.bytes_are)
