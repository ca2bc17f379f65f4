use Rattle.std.proofs.Common.{rules}
use Rattle.std.specs.Ordering.{eq_by_cmp, is_lt}
use Rattle.std.proofs.lemmas.Fn.{always_returns_same, dedup_same}
use Rattle.std.proofs.lemmas.List.Sorted.{ranks_by}
use Rattle.archive_core.specs.declared.find.FindRow.{FindRow}
use Rattle.text_reports.specs.Slices.{AnswersAmong, slice_row_cmp}
use Rattle.text_reports.specs.InnerSlices.{row_key}
use Rattle.text_reports.proofs.Kept.{exactly_moved, exactly_once, exactly_same, once_ascends}
use Rattle.text_reports.proofs.Sliced.{answers, one_answer, rows_total}
use Rattle.text_reports.proofs.slices.answering_rows.Goals as goal

pub returns-clause-exactly : goal.returns-clause-exactly
returns-clause-exactly c =
    let pool = c.args.pool.now in
    let rows = c.in_ok-rows.rows.items in
    let among = rw c.deref.ensures.value at c.in_ok-rows.ensures in
    let all = exactly_same row_key _ (AnswersAmong pool) (answers pool c.in_ok-live.live.items c.in_ok-live.ensures) rows among in
    let sorted = exactly_moved row_key (AnswersAmong pool) rows c.sort_unstable_by.new.self.items c.sort_unstable_by.ensures.permutation all in
    let once = dedup_same _ (eq_by_cmp slice_row_cmp) _ (λ x y b f x' y' called. search rules) _ _ c.dedup_by.ensures.filtered in
    exactly_once row_key (AnswersAmong pool) rows_total _ _ once (one_answer pool) sorted

pub returns-clause-ascending : goal.returns-clause-ascending
returns-clause-ascending c =
    let once = dedup_same _ (eq_by_cmp slice_row_cmp) _ (λ x y b f x' y' called. search rules) _ _ c.dedup_by.ensures.filtered in
    once_ascends row_key (AnswersAmong c.args.pool.now) rows_total _ _ once
    (c.sort_unstable_by.ensures.sorted (λ (a b : FindRow). is_lt (slice_row_cmp a b))
    (ranks_by rows_total (λ (row : FindRow). row))
    (always_returns_same _ _ _ (λ a r g called. (search rules, search rules))))
