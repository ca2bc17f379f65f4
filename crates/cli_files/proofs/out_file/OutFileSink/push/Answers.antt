use Rattle.std.proofs.Common.{◌∙◌, sym, ap, option_map, string_bytes, subst, take}
use mathlib.Core.Logic.{∥∥₁_map}
use Rattle.cli_files.specs.OutFiles.{IsSoFar, has_calls, is_settled, stage_of}
use Rattle.cli_files.proofs.Publishings.{failed_some, more_account, more_so_far, takes_has_calls, took_some, written_anyhow}
use Rattle.cli_files.proofs.out_file.OutFileSink.push.Goals as goal

pub invariant_of-self : goal.invariant_of-self
invariant_of-self g c =
    let old = c.args.self.now in
    let path = option_map string_bytes old.path in
    let stage = stage_of c.write.new.state in
    let begun = c.open_if_untouched.new.calls.entries in
    let bytes = take c.in-Ok.n c.args.bytes.now in
    record {
      so_far = ∥∥₁_map old.so_far (λ so. subst (λ calls. IsSoFar old.replaces path stage calls) (sym c.note_write.ensures)
          (more_so_far old.replaces path stage begun bytes c.in-Ok.ensures.takes
          (subst (λ s. IsSoFar old.replaces path s begun) (sym c.write.ensures.stage) (c.open_if_untouched.ensures.so_far so))));
      empty = λ no. absurd (takes_has_calls stage c.in-Ok.ensures.takes no);
      first = λ none. absurd (took_some begun _ c.args.bytes.now c.in-Ok.n old.failures c.note_write.ensures
          c.if-n-gt0.true c.in-Ok.ensures.bound none);
    }

pub invariant_of-self-in_default : goal.invariant_of-self-in_default
invariant_of-self-in_default g c =
    let old = c.args.self.now in
    let path = option_map string_bytes old.path in
    record {
      so_far = ∥∥₁_map old.so_far (λ so. subst (λ s. IsSoFar old.replaces path s c.open_if_untouched.new.calls.entries)
          (sym c.write.ensures.stage) (c.open_if_untouched.ensures.so_far so));
      empty = λ no. c.open_if_untouched.ensures.empty old.empty (ap has_calls (sym c.write.ensures.stage) ∙ no);
      first = λ none. absurd (failed_some _ old.failures none);
    }

pub returns-in-Ok-clause-bytes : goal.returns-in-Ok-clause-bytes
returns-in-Ok-clause-bytes g c =
    let old = c.args.self.now in
    more_account (option_map string_bytes old.path) old.replaces (stage_of old.state) (stage_of c.write.new.state)
    old.calls.entries c.open_if_untouched.new.calls.entries _ (take c.in-Ok.n c.args.bytes.now)
    (ap is_settled c.write.ensures.stage ∙ c.open_if_untouched.ensures.settled) c.in-Ok.ensures.takes
    (c.open_if_untouched.ensures.bytes old.empty) c.note_write.ensures

pub returns-in-Ok-clause-written : goal.returns-in-Ok-clause-written
returns-in-Ok-clause-written g c = λ some able. (
  c.open_if_untouched.new.state,
  c.open_if_untouched.ensures.same,
  written_anyhow _ _ g.F.File.Write.contents c.open_if_untouched.new.state c.write.new.state c.in-Ok.n c.args.bytes.now
      c.in-Ok.ensures.bytes,
)
