use Rattle.std.proofs.Common.{◌≤◌, ◌∙◌, sym, ap, filter, true, false, length}
use Rattle.std.proofs.lemmas.Result.{IfOk-weaker, on_err_weaker}
use Rattle.archive_index.specs.InnerScan.{held_among}
use Rattle.archive_core.specs.Lookup.{IsAnswer, IsAnswerOf, answer_view}
use Rattle.archive_index.proofs.Lookups.{companions_answer, images_answer, some_of_answering}
use Rattle.archive_index.specs.InnerRange.{is_under_key}
use Rattle.archive_index.specs.declared.range.RecordKind.TheVariants.{Admission}
use Rattle.archive_index.proofs.Ranges.{live_under}
use Rattle.archive_index.proofs.plain.PlainArchiveArchive.lookup.Goals as goal

pub returns-in-Nothing : goal.returns-in-Nothing
returns-in-Nothing c =
    let o = c.args.self.now in
    let key = c.args.key.now in
    let operations = c.self.inside.operations.items in
    let slices = held_among key false operations in
    let under = c.under-admissions.ensures.range ∙ ap (filter (is_under_key Admission key)) c.deref.ensures.value in
    let none = sym (live_under key true operations) ∙ ap (held_among key true) (sym under) ∙ c.in-Nothing.ensures in
    let answering = images_answer o key operations c.self.invariant c.self.view_is c.under-admissions.ensures.key none in
    record {
      answer =
          IfOk-weaker c.answer_of.result (λ answer. IsAnswerOf c.args.asked slices (answer_view answer))
          (λ answer. IsAnswer o key c.args.asked (answer_view answer))
          (λ answer is. record { slices = slices; answering = answering; answer_is = is })
          (rw (under, live_under key false operations) at c.answer_of.ensures.answer);
      memory =
          on_err_weaker c.answer_of.result
          (λ (several : 2 ≤ length slices). record { slices = slices; answering = answering; several = several })
          (rw (under, live_under key false operations) at c.answer_of.ensures.memory);
    }

pub returns-in_default : goal.returns-in_default
returns-in_default c =
    let o = c.args.self.now in
    let key = c.args.key.now in
    let operations = c.self.inside.operations.items in
    let slices = held_among key true operations in
    let under = c.under-admissions.ensures.range ∙ ap (filter (is_under_key Admission key)) c.deref.ensures.value in
    let answering = rw (under, live_under key true operations) at c.answering.ensures in
    let some = some_of_answering c.answering.result slices answering c.in_default.not-Nothing in
    let answering = companions_answer o key operations c.self.invariant c.self.view_is c.under-admissions.ensures.key some in
    record {
      answer =
          IfOk-weaker c.answer_of-in_default.result (λ answer. IsAnswerOf c.args.asked slices (answer_view answer))
          (λ answer. IsAnswer o key c.args.asked (answer_view answer))
          (λ answer is. record { slices = slices; answering = answering; answer_is = is })
          (rw (under, live_under key true operations) at c.answer_of-in_default.ensures.answer);
      memory =
          on_err_weaker c.answer_of-in_default.result
          (λ (several : 2 ≤ length slices). record { slices = slices; answering = answering; several = several })
          (rw (under, live_under key true operations) at c.answer_of-in_default.ensures.memory);
    }
