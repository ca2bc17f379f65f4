use Rattle.std.proofs.Common.{List, ℕ, refl, ap, ◌∙◌, ◌++◌}
use Rattle.text_reports.specs.Answers.{answer_lines}
use Rattle.command_queries.specs.Places.{address_in}
use Rattle.command_frames.specs.InnerKeyReplies.{shown_at}
use Rattle.command_frames.proofs.tables.table_answer.Goals as goal

pub returns : goal.returns
returns c =
    let frames = shown_at c.args.lines c.args.answers.now c.args.number in
    record {
      row = record { address = address_in c.args.place; answer = c.in_ok-answer.answer; frames = frames };
      address_is = refl;
      is_said = (c.in_ok-answer.ensures, refl);
      status_is = c.status_after-status.ensures;
      text_is = rw (← c.address_in.ensures) (c.in_ok-push_table_answer.ensures
          ∙ ap (λ (t : List ℕ). t ++ answer_lines c.address_in.result c.in_ok-answer.answer frames) c.new-text.ensures.bytes);
    }
