use Rattle.std.proofs.Common.{rules}
use Rattle.std.specs.Ordering.{nat_cmp, on, eq_by_cmp}
use Rattle.std.specs.Cmp.Lexicographic.{slice_cmp}
use Rattle.std.proofs.lemmas.Fn.{dedup_same}
use Rattle.archive_core.specs.Record.{record_bytes}
use Rattle.archive_index.proofs.Merged.{ordered}
use Rattle.archive_index.proofs.plain.order.Goals as goal

pub returns : goal.returns
returns c =
    let kept = dedup_same _ (eq_by_cmp (on record_bytes (slice_cmp nat_cmp))) _ (λ x y b f' x' y' k. search rules) _ _ c.dedup_by.ensures.filtered in
    rw kept (ordered c.args.operations.now.items c.sort.new.operations.items c.sort.ensures.permutation c.sort.ensures.sorted)
