use Rattle.std.proofs.Common.{◌≡◌, ◌+◌, ◌++◌, List, [], ◌∷◌, ◌∙◌, arith, sym, subst}
use Rattle.archive_core.specs.declared.find.FindRow.{FindRow}
use Rattle.text_reports.specs.Slices.{LivesAmong}
use Rattle.text_reports.specs.InnerSlices.{LivesBeside, row_key}
use Rattle.text_reports.proofs.Kept.{AreOfFirst, exactly_same, kept_all, kept_more, kept_same}
use Rattle.text_reports.proofs.Sliced.{lives}
use Rattle.text_reports.proofs.slices.live_rows.Goals as goal
use Rattle.text_reports.proofs.slices.live_rows.Goals.{then-lives_beside+in_ok-push, else-lives_beside}

pub rows-preserved : goal.rows-preserved
rows-preserved c =
    let beside = c.in_ok-retired.retired.items in
    let is = rw c.deref.ensures.value at c.lives_beside.ensures.is in
    elim c.if-lives_beside.branch [
      | then-lives_beside+in_ok-push w ↦
          let items : c.if-lives_beside.live.items ≡ c.rows.live.items ++ c.row-item.result ∷ [] = (λ i. (w.live-is i).items) ∙ w.in_ok-push.ensures.items in
          subst (λ (l : List FindRow). AreOfFirst row_key (LivesBeside beside) c.args.pool.now (c.rows.row-index + 1) l) (sym items)
          (kept_more row_key (LivesBeside beside) c.args.pool.now c.rows.live.items c.rows.row-index c.row-item.result
          c.rows-test.true c.row-item.is c.rows.invariant c.lives_beside.ensures.key (is.0 w.if-lives_beside.true))
      | else-lives_beside w ↦
          let items : c.if-lives_beside.live.items ≡ c.rows.live.items = λ i. (w.live-is i).items in
          subst (λ (l : List FindRow). AreOfFirst row_key (LivesBeside beside) c.args.pool.now (c.rows.row-index + 1) l) (sym items)
          (kept_same row_key (LivesBeside beside) c.args.pool.now c.rows.live.items c.rows.row-index c.row-item.result
          c.rows-test.true c.row-item.is c.rows.invariant (λ one. cc (is.1 one, w.if-lives_beside.false)))
    ]

pub returns : goal.returns
returns c =
    let beside = c.in_ok-retired.retired.items in
    exactly_same row_key _ (LivesAmong c.args.pool.now) (lives c.args.pool.now beside c.in_ok-retired.ensures.exactly) c.rows.live.items
    (kept_all row_key (LivesBeside beside) c.args.pool.now c.rows.live.items c.rows.row-index (omega (arith, c.rows-test.false)) c.rows.invariant)
