use Rattle.std.proofs.Common.{rules}
use Rattle.std.specs.Cmp.Lexicographic.{nat_list_cmp_total}
use Rattle.std.proofs.lemmas.Fn.{always_returns_same}
use Rattle.std.proofs.lemmas.List.Sorted.{ranks_by}
use Rattle.archive_core.specs.Key.{key_bytes}
use Rattle.archive_core.specs.declared.find.FindRow.{FindRow}
use Rattle.command_given_indexes.specs.Rows.{has_lower_key}
use Rattle.command_given_indexes.proofs.rows.put_by_key.Goals as goal

pub returns-clause-sorted : goal.returns-clause-sorted
returns-clause-sorted c =
    c.in_ok-sort_by.ensures.sorted has_lower_key (ranks_by nat_list_cmp_total (λ (row : FindRow). key_bytes row.key))
    (always_returns_same _ _ _ (λ a r g called. (search rules, search rules)))

pub returns-clause-stable : goal.returns-clause-stable
returns-clause-stable c =
    c.in_ok-sort_by.ensures.stable has_lower_key (ranks_by nat_list_cmp_total (λ (row : FindRow). key_bytes row.key))
    (always_returns_same _ _ _ (λ a r g called. (search rules, search rules)))
