use Rattle.std.proofs.Common.{List, ℕ, rules}
use Rattle.std.specs.Ordering.{eq_by_cmp, is_lt, nat_cmp}
use Rattle.std.specs.Cmp.Lexicographic.{slice_cmp, nat_list_cmp_total}
use Rattle.std.proofs.lemmas.Fn.{always_returns_same, dedup_same}
use Rattle.std.proofs.lemmas.List.Sorted.{ranks_by}
use Rattle.command_frames.proofs.SlicesTold.{uuids_are, uuids_ascending, uuids_sorted}
use Rattle.command_frames.proofs.named.uuids_of.Goals as goal

pub returns-clause-are : goal.returns-clause-are
returns-clause-are c =
    let once = dedup_same _ (eq_by_cmp (slice_cmp nat_cmp)) _ (λ x y b f x' y' called. search rules) _ _ c.dedup_by.ensures.filtered in
    uuids_are c.args.keys.now c.in_ok-uuids.uuids.items c.sort_unstable_by.new.self.items c.dedup_by.new.self.items
    c.in_ok-uuids.ensures c.sort_unstable_by.ensures.permutation once

pub returns-clause-sorted : goal.returns-clause-sorted
returns-clause-sorted c =
    let once = dedup_same _ (eq_by_cmp (slice_cmp nat_cmp)) _ (λ x y b f x' y' called. search rules) _ _ c.dedup_by.ensures.filtered in
    uuids_sorted _ _ (c.sort_unstable_by.ensures.sorted (λ (a b : List ℕ). is_lt (slice_cmp nat_cmp a b))
    (ranks_by nat_list_cmp_total (λ (uuid : List ℕ). uuid))
    (always_returns_same _ _ _ (λ a r g called. (search rules, search rules)))) once

pub returns-clause-ascending : goal.returns-clause-ascending
returns-clause-ascending c =
    let once = dedup_same _ (eq_by_cmp (slice_cmp nat_cmp)) _ (λ x y b f x' y' called. search rules) _ _ c.dedup_by.ensures.filtered in
    uuids_ascending _ _ (c.sort_unstable_by.ensures.sorted (λ (a b : List ℕ). is_lt (slice_cmp nat_cmp a b))
    (ranks_by nat_list_cmp_total (λ (uuid : List ℕ). uuid))
    (always_returns_same _ _ _ (λ a r g called. (search rules, search rules)))) once
