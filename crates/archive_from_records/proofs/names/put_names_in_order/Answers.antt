use Rattle.std.proofs.Common.{rules}
use Rattle.std.proofs.lemmas.Fn.{always_returns_same, dedup_same}
use Rattle.std.proofs.lemmas.List.Sorted.{ranks_by}
use Rattle.std.specs.Ordering.{is_lt, on, eq_by_cmp}
use Rattle.archive_core.specs.Names.{name_cmp, owned_name_view}
use Rattle.archive_core.proofs.NameOrder.{name_total}
use Rattle.archive_from_records.proofs.Sought.{rows_ascending, rows_kept}
use Rattle.archive_from_records.proofs.names.put_names_in_order.Goals as goal

pub returns : goal.returns
returns c =
    let sorted = c.sort_unstable_by.ensures.sorted (λ x y. is_lt (name_cmp (owned_name_view x) (owned_name_view y)))
    (ranks_by name_total owned_name_view) (always_returns_same _ _ _ (λ a r g called. (search rules, search rules)))
    in
    let kept = dedup_same _ (eq_by_cmp (on owned_name_view name_cmp)) _ (λ x y b f' x' y' k. search rules) _ _ c.dedup_by.ensures.filtered in
    let old = c.args.rows.now.items in
    let permuted = c.sort_unstable_by.ensures.permutation in
    record {
      ascending = rows_ascending owned_name_view old _ _ permuted sorted kept;
      same = rows_kept owned_name_view old _ _ permuted sorted kept;
    }
