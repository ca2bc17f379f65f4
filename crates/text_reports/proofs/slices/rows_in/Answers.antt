use Rattle.std.proofs.Common.{◌≡◌, ◌+◌, ◌++◌, List, [], ◌∷◌, ◌∙◌, rules, arith, sym, subst}
use Rattle.std.specs.Ordering.{is_lt}
use Rattle.std.proofs.lemmas.Fn.{always_returns_same}
use Rattle.std.proofs.lemmas.List.Sorted.{ranks_by}
use Rattle.archive_core.specs.declared.find.FindRow.{FindRow}
use Rattle.text_reports.specs.Slices.{slice_row_cmp}
use Rattle.text_reports.specs.InnerSlices.{row_key}
use Rattle.text_reports.proofs.Kept.{AreOfFirst, exactly_moved, kept_all, kept_more, kept_same}
use Rattle.text_reports.proofs.Sliced.{rows_total}
use Rattle.text_reports.proofs.slices.rows_in.Goals as goal
use Rattle.text_reports.proofs.slices.rows_in.Goals.{then-is_in+in_ok-push, else-is_in}

pub rows-preserved : goal.rows-preserved
rows-preserved c = elim c.if-is_in.branch [
  | then-is_in+in_ok-push w ↦
      let items : c.if-is_in.kept.items ≡ c.rows.kept.items ++ c.row-item.result ∷ [] = (λ i. (w.kept-is i).items) ∙ w.in_ok-push.ensures.items in
      subst (λ (l : List FindRow). AreOfFirst row_key (λ (row : FindRow). row.state ≡ c.args.state) c.args.rows.now (c.rows.row-index + 1) l) (sym items)
      (kept_more row_key (λ (row : FindRow). row.state ≡ c.args.state) c.args.rows.now c.rows.kept.items
      c.rows.row-index c.row-item.result c.rows-test.true c.row-item.is c.rows.invariant c.is_in.ensures.key
      (c.is_in.ensures.is.0 w.if-is_in.true))
  | else-is_in w ↦
      let items : c.if-is_in.kept.items ≡ c.rows.kept.items = λ i. (w.kept-is i).items in
      subst (λ (l : List FindRow). AreOfFirst row_key (λ (row : FindRow). row.state ≡ c.args.state) c.args.rows.now (c.rows.row-index + 1) l) (sym items)
      (kept_same row_key (λ (row : FindRow). row.state ≡ c.args.state) c.args.rows.now c.rows.kept.items
      c.rows.row-index c.row-item.result c.rows-test.true c.row-item.is c.rows.invariant
      (λ is. cc (c.is_in.ensures.is.1 is, w.if-is_in.false)))
]

pub returns-clause-exactly : goal.returns-clause-exactly
returns-clause-exactly c =
    exactly_moved row_key _ c.rows.kept.items c.sort_unstable_by.new.self.items c.sort_unstable_by.ensures.permutation
    (kept_all row_key (λ (row : FindRow). row.state ≡ c.args.state) c.args.rows.now c.rows.kept.items c.rows.row-index
    (omega (arith, c.rows-test.false)) c.rows.invariant)

pub returns-clause-sorted : goal.returns-clause-sorted
returns-clause-sorted c =
    c.sort_unstable_by.ensures.sorted (λ (a b : FindRow). is_lt (slice_row_cmp a b))
    (ranks_by rows_total (λ (row : FindRow). row))
    (always_returns_same _ _ _ (λ a r g called. (search rules, search rules)))
