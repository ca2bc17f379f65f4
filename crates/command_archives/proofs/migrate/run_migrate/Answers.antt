use Rattle.std.proofs.Common.{Some, ap, inl, refl, sym, ◌∙◌}
use Rattle.archive_records.proofs.Blamed.{failed}
use Rattle.std.specs.FinSet as set
use Rattle.archive_records.specs.Text.{written}
use Rattle.byte_device.proofs.Known.{Appends-none}
use Rattle.command_archives.proofs.Joined.{empty_content, join_with_nothing}
use Rattle.command_archives.proofs.Streamed.{join_published, join_stopped}
use Rattle.command_archives.specs.Migrate.{MakesMigrated}
use Rattle.command_archives.proofs.migrate.run_migrate.Goals as goal

pub returns-in_err-sizes : goal.returns-in_err-sizes
returns-in_err-sizes g c =
    let nothing = c.new-nothing.ensures.left ∙ ap Some c.empty_text-empty.ensures in
    let stopped = c.in_err-sizes.ensures.1 set.empty (record {
      is_content = empty_content;
      text = written set.empty;
      is_text =
          inl refl;
      bytes = nothing;
      unfailed_before = c.new-nothing.ensures.failures;
      unfailed = refl;
    }) in
    rw (failed c.from_residual.result _ c.from_residual.ensures.1)
    (join_stopped _ set.empty (λ given. MakesMigrated given) (λ given o lines m.
    (o, m.is_content, m.archive, sym (join_with_nothing o m.is_content.itself))) _ _ _
    stopped.0 stopped.1 c.in_err-sizes.ensures.0 (refl, refl) (Appends-none _, refl))

pub returns : goal.returns
returns g c =
    let nothing = c.new-nothing.ensures.left ∙ ap Some c.empty_text-empty.ensures in
    let j = c.in_ok-sizes.ensures set.empty (record {
      is_content = empty_content;
      text = written set.empty;
      is_text =
          inl refl;
      bytes = nothing;
      unfailed_before = c.new-nothing.ensures.failures;
      unfailed = refl;
    }) in
    join_published _ set.empty (λ given. MakesMigrated given) _ _ j _
    (rw (join_with_nothing j.content j.is_content.itself)
    (record { is_content = j.is_content; archive = j.archive; lines_are = c.new.ensures.bytes })) _ _
    c.publish_draft.result
    (c.publish_draft.ensures c.args.out.now.draft _ (j.written_is.written, j.written_is.unfailed) j.written_is.bytes_are)
