use Rattle.std.proofs.Common.{rules}
use Rattle.std.proofs.lemmas.Fn.{always_returns_same, dedup_same}
use Rattle.std.proofs.lemmas.List.Sorted.{ranks_by}
use Rattle.std.specs.Ordering.{is_lt, on, eq_by_cmp}
use Rattle.archive_core.specs.Names.{name_cmp, name_view}
use Rattle.archive_core.proofs.NameOrder.{name_total}
use Rattle.archive_index.proofs.Naming.{ordered}
use Rattle.archive_index.proofs.name_rows.put_in_order.Goals as goal

pub returns : goal.returns
returns c =
    let sorted = c.sort_unstable_by.ensures.sorted (λ x y. is_lt (name_cmp (name_view x) (name_view y)))
    (ranks_by name_total name_view) (always_returns_same _ _ _ (λ a r g called. (search rules, search rules))) in
    let kept = dedup_same _ (eq_by_cmp (on name_view name_cmp)) _ (λ x y b f' x' y' k. search rules) _ _ c.dedup_by.ensures.filtered in
    let all = ordered c.args.rows.now.items c.sort_unstable_by.new.self.items c.sort_unstable_by.ensures.permutation sorted in
    rw kept (record { ascending = all.ascending; same = all.same })
