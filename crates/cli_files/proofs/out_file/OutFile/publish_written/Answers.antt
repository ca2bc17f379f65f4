use Rattle.std.proofs.Common.{◌∙◌, refl, sym, ap, option_map, string_bytes, subst}
use Rattle.std.proofs.lemmas.Grind.{not_there}
use mathlib.Core.Logic.{∥∥₁_map}
use Rattle.cli_files.specs.FileCalls.{bytes_in}
use Rattle.cli_files.specs.OutFiles.{stage_of}
use Rattle.cli_files.specs.Publishing.{HandsOn, IsPublished}
use Rattle.cli_files.proofs.Publishings.{kept_empty, kept_first, none_handed_on, published_at}
use Rattle.cli_files.proofs.out_file.OutFile.publish_written.Goals as goal

pub invariant_of-self : goal.invariant_of-self
invariant_of-self g c =
    let old = c.args.self.now in
    let is = c.if-not-publish_state.ensures in
    record {
      so_far = ∥∥₁_map old.so_far (λ so. is.refused refl (option_map string_bytes old.path) so);
      empty = kept_empty (stage_of old.state) (stage_of c.publish_state.new.state) old.calls.entries c.publish_state.new.calls.entries
          old.empty (is.has_calls refl) (is.same_calls refl);
      first = kept_first old.replaces (option_map string_bytes old.path) (stage_of old.state) old.calls.entries
          c.publish_state.new.calls.entries old.failures old.so_far old.first is.bytes (is.same_calls refl);
    }

pub invariant_of-result : goal.invariant_of-result
invariant_of-result g c =
    let old = c.args.self.now in
    let path = option_map string_bytes old.path in
    record {
      whole = ∥∥₁_map old.so_far (λ so.
          subst (λ calls. IsPublished (string_bytes c.in-Some.path) old.replaces (bytes_in calls.entries) calls.entries)
          (sym c.replace-calls.ensures.value)
          (published_at path old.replaces (string_bytes c.in-Some.path) c.publish_state.new.calls.entries
          (ap (option_map string_bytes) (sym c.replace.ensures.value ∙ c.in-Some.is))
          (c.if-not-publish_state.ensures.published refl path so)));
    }

pub unreachable-requires : goal.unreachable-requires
unreachable-requires g c =
    let old = c.args.self.now in
    let path = option_map string_bytes old.path in
    not_there old.so_far (λ so. none_handed_on old.replaces c.publish_state.new.calls.entries
    (subst (λ p. HandsOn p old.replaces c.publish_state.new.calls.entries)
    (ap (option_map string_bytes) (sym c.replace.ensures.value ∙ c.in-None.is))
    (c.if-not-publish_state.ensures.published refl path so)))
