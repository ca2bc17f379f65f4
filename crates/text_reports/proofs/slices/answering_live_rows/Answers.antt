use Rattle.std.proofs.Common.{◌≡◌, ◌+◌, ◌++◌, List, [], ◌∷◌, ◌∙◌, arith, sym, subst}
use Rattle.std.specs.List.{Contains}
use Rattle.archive_core.specs.declared.find.FindRow.{FindRow}
use Rattle.text_reports.specs.InnerSlices.{AnswersBeside, AnswersIn, row_key}
use Rattle.text_reports.proofs.Kept.{AreOfFirst, exactly_same, kept_all, kept_more, kept_same}
use Rattle.text_reports.proofs.Sliced.{beside_companions}
use Rattle.text_reports.proofs.slices.answering_live_rows.Goals as goal
use Rattle.text_reports.proofs.slices.answering_live_rows.Goals.{then-answers_beside+in_ok-push, else-answers_beside}

pub rows-preserved : goal.rows-preserved
rows-preserved c =
    let beside = c.in_ok-companions.companions.items in
    let is = rw c.deref.ensures.value at c.answers_beside.ensures.is in
    elim c.if-answers_beside.branch [
      | then-answers_beside+in_ok-push w ↦
          let items : c.if-answers_beside.rows.items ≡ c.rows.rows.items ++ c.row-item.result ∷ [] = (λ i. (w.rows-is i).items) ∙ w.in_ok-push.ensures.items in
          subst (λ (l : List FindRow). AreOfFirst row_key (AnswersBeside beside) c.args.live.now (c.rows.row-index + 1) l) (sym items)
          (kept_more row_key (AnswersBeside beside) c.args.live.now c.rows.rows.items c.rows.row-index c.row-item.result
          c.rows-test.true c.row-item.is c.rows.invariant c.answers_beside.ensures.key
          (is.0 w.if-answers_beside.true))
      | else-answers_beside w ↦
          let items : c.if-answers_beside.rows.items ≡ c.rows.rows.items = λ i. (w.rows-is i).items in
          subst (λ (l : List FindRow). AreOfFirst row_key (AnswersBeside beside) c.args.live.now (c.rows.row-index + 1) l) (sym items)
          (kept_same row_key (AnswersBeside beside) c.args.live.now c.rows.rows.items c.rows.row-index c.row-item.result
          c.rows-test.true c.row-item.is c.rows.invariant (λ one. cc (is.1 one, w.if-answers_beside.false)))
    ]

pub returns : goal.returns
returns c =
    let beside = c.in_ok-companions.companions.items in
    exactly_same row_key _ (λ (row : FindRow). Contains c.args.live.now row × AnswersIn c.args.live.now row)
    (beside_companions c.args.live.now beside c.in_ok-companions.ensures.exactly) c.rows.rows.items
    (kept_all row_key (AnswersBeside beside) c.args.live.now c.rows.rows.items c.rows.row-index (omega (arith, c.rows-test.false)) c.rows.invariant)
