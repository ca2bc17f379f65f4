use Rattle.std.proofs.Common.{◌≡◌, false, Result, Ok, Err, sym, ◌∙◌, rules}
use Rattle.std.specs.Result.{OnOk, is_err}
use Rattle.std.specs.Ordering.{nat_cmp, is_lt}
use Rattle.std.specs.Cmp.Lexicographic.{slice_cmp, nat_list_cmp_total}
use Rattle.std.proofs.lemmas.Fn.{always_returns_same}
use Rattle.std.proofs.lemmas.List.MinMax.{ranks_by}
use Rattle.archive_core.specs.Record.{record_bytes}
use Rattle.archive_index.proofs.plain.sort.Goals as goal

at_ok : {T E P : Type 0} (r : Result T E) → is_err r ≡ false → OnOk r P → P
at_ok (Ok x) e h = h
at_ok (Err x) e h = cc

pub returns-then-is_err-clause-sorted : goal.returns-then-is_err-clause-sorted
returns-then-is_err-clause-sorted c = c.sort_unstable_by.ensures.sorted
    (λ x y. is_lt (slice_cmp nat_cmp (record_bytes x) (record_bytes y))) (ranks_by nat_list_cmp_total record_bytes)
    (always_returns_same _ _ _ (λ a r g called. (search rules, search rules)))

pub returns-else-is_err-clause-sorted : goal.returns-else-is_err-clause-sorted
returns-else-is_err-clause-sorted c = at_ok c.sort_by.result (sym c.is_err.ensures.value ∙ c.if-is_err.false)
    c.sort_by.ensures.sorted (λ x y. is_lt (slice_cmp nat_cmp (record_bytes x) (record_bytes y)))
    (ranks_by nat_list_cmp_total record_bytes) (always_returns_same _ _ _
    (λ a r g called. (search rules, search rules)))
