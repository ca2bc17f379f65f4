use Rattle.std.proofs.Common.{rules}
use Rattle.std.specs.List.{Contains}
use Rattle.std.specs.Ordering.{eq_by_cmp, is_lt}
use Rattle.std.proofs.lemmas.Fn.{always_returns_same, dedup_same}
use Rattle.std.proofs.lemmas.List.Sorted.{ranks_by}
use Rattle.archive_core.specs.declared.keys.SliceKey.{SliceKey}
use Rattle.text_reports.specs.Slices.{slice_key_cmp}
use Rattle.text_reports.specs.InnerSlices.{HasKey, own_key}
use Rattle.text_reports.proofs.Kept.{exactly_moved, exactly_once, once_ascends}
use Rattle.text_reports.proofs.Sliced.{keys_total, one_key_same}
use Rattle.text_reports.proofs.slices.absent_keys.Goals as goal

pub returns-clause-exactly : goal.returns-clause-exactly
returns-clause-exactly c =
    let IsAbsent = λ (key : SliceKey). Contains c.args.keys.now key × (HasKey c.args.rows.now key → ⊥) in
    let sorted = exactly_moved own_key IsAbsent c.in_ok-absent.absent.items c.sort_unstable_by.new.self.items
    c.sort_unstable_by.ensures.permutation c.in_ok-absent.ensures in
    let once = dedup_same _ (eq_by_cmp slice_key_cmp) _ (λ x y b f x' y' called. search rules) _ _ c.dedup_by.ensures.filtered in
    exactly_once own_key IsAbsent keys_total _ _ once (λ a b is_a is_b key_a key_b e. one_key_same a b key_a key_b e) sorted

pub returns-clause-ascending : goal.returns-clause-ascending
returns-clause-ascending c =
    let once = dedup_same _ (eq_by_cmp slice_key_cmp) _ (λ x y b f x' y' called. search rules) _ _ c.dedup_by.ensures.filtered in
    once_ascends own_key (λ (key : SliceKey). Contains c.args.keys.now key × (HasKey c.args.rows.now key → ⊥)) keys_total _ _ once
    (c.sort_unstable_by.ensures.sorted (λ (a b : SliceKey). is_lt (slice_key_cmp a b))
    (ranks_by keys_total (λ (key : SliceKey). key))
    (always_returns_same _ _ _ (λ a r g called. (search rules, search rules))))
