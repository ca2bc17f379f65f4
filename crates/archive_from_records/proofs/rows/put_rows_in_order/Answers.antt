use Rattle.std.proofs.Common.{rules}
use Rattle.std.specs.Cmp.Lexicographic.{nat_list_cmp_total}
use Rattle.std.proofs.lemmas.Fn.{always_returns_same}
use Rattle.std.proofs.lemmas.List.Sorted.{ranks_by}
use Rattle.archive_core.specs.Key.{key_bytes}
use Rattle.archive_core.specs.declared.find.FindRow.{FindRow}
use Rattle.archive_from_records.proofs.RowsTold.{by_key, list_of}
use Rattle.archive_from_records.proofs.rows.put_rows_in_order.Goals as goal

pub returns : goal.returns
returns c = λ o content rows.
    let ranks = ranks_by nat_list_cmp_total (λ (row : FindRow). key_bytes row.key) in
    let sorted = c.in_ok-sort_by.ensures.sorted by_key ranks (always_returns_same _ _ _ (λ a r g called. (search rules, search rules))) in
    let stable = c.in_ok-sort_by.ensures.stable by_key ranks (always_returns_same _ _ _ (λ a r g called. (search rules, search rules))) in
    list_of o _ _ content rows sorted stable
