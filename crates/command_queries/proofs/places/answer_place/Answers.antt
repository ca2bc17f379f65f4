use Rattle.std.proofs.Common.{List, ℕ, ap, refl, ◌∙◌, ◌++◌}
use Rattle.text_reports.specs.Answers.{answer_lines}
use Rattle.text_reports.specs.FrameLists.{lists_view}
use Rattle.archive_core.specs.Lookup.{answer_view}
use Rattle.command_queries.specs.Places.{address_in}
use Rattle.command_queries.proofs.AnswersWithFrames.{answered_by}
use Rattle.command_queries.proofs.places.answer_place.Goals as goal

pub returns : goal.returns
returns g c = λ lines sources.
    let frames = lists_view c.deref.result.now in
    record {
      row = record { address = address_in c.args.place; answer = c.in_ok-answer.answer; frames = frames };
      address_is = refl;
      is_said = answered_by (g.A.Join.content c.args.archive.now) c.args.key.now lines c.args.place c.args.place
          (answer_view c.in_ok-answer.answer) c.args.sources.now.found.items frames refl
          c.in_ok-answer.ensures.answer sources (ap lists_view c.deref.ensures.value ∙ c.in_ok-frames.ensures);
      status_is = c.status_after-status.ensures;
      text_is = rw (← c.address_in.ensures) (c.in_ok-push_answer.ensures
          ∙ ap (λ (t : List ℕ). t ++ answer_lines c.address_in.result c.in_ok-answer.answer frames) c.new-text.ensures.bytes);
    }
