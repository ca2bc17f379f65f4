use Rattle.std.proofs.Common.{List, ℕ, [], ◌∷◌, ap, length, refl, sym, string_bytes, append_assoc, ◌∙◌, ◌++◌}
use Rattle.std.specs.Prelude.{None}
use Rattle.std.proofs.lemmas.Option.{slice_get_read}
use Rattle.text_values.specs.Words.{address_text}
use Rattle.command_common.specs.declared.faults.Status.TheVariants.{SomeRefused}
use Rattle.command_frames.specs.Refusals.{reply_text}
use Rattle.command_frames.proofs.replies.push_reply.Goals as goal

pub returns-in_ok-push_str-in-Told : goal.returns-in_ok-push_str-in-Told
returns-in_ok-push_str-in-Told c =
    let answer = c.index-answer.result.now in
    let answers = c.in-Told.answers.items in
    let there = rw c.in-Told.is at c.requires in
    let at = slice_get_read answers (length answers) c.args.number answer refl there c.index-answer.ensures in
    record {
      printed = record { status = answer.status; text = string_bytes answer.text };
      printed_is = rw c.in-Told.is (answer, at, refl, refl);
      status_is = c.status_with.ensures;
      text_is = c.in_ok-push_str-in-Told.ensures.bytes ∙ ap (λ (t : List ℕ). string_bytes c.args.text.now ++ t) c.deref.ensures;
    }

pub returns-in_ok-writeln-in-Refused : goal.returns-in_ok-writeln-in-Refused
returns-in_ok-writeln-in-Refused c = record {
  printed = record { status = SomeRefused; text = reply_text c.args.address None };
  printed_is = rw c.in-Refused.is (refl, refl);
  status_is = c.status_with-in-Refused.ensures;
  text_is = c.in_ok-writeln-in-Refused.ensures.bytes ∙ ap (λ (t : List ℕ). string_bytes c.args.text.now ++ t)
      (sym (append_assoc (address_text c.args.address) (32 ∷ (33 ∷ [])) (10 ∷ [])));
}
