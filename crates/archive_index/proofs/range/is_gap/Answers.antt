use Rattle.std.proofs.Common.{◌∙◌, ap, sym, arith}
use Rattle.std.specs.Ordering.{is_lt, is_gt}
use Rattle.archive_index.specs.declared.range.RecordKind.TheVariants.{Retirement}
use Rattle.archive_index.proofs.Ranges.{below_place, above_place, none_at}
use Rattle.archive_index.proofs.range.is_gap.Goals as goal
use Rattle.archive_index.proofs.range.is_gap.Goals.{else-asked-gt0-via-then-asked-gt0+else-not-is_lt}
use Rattle.archive_index.proofs.range.is_gap.Goals.{else-asked-gt0-via-else-asked-gt0}
use Rattle.archive_index.proofs.range.is_gap.Goals.{else-asked-operations-2-via-then-asked-operations-2+else-not-is_gt}
use Rattle.archive_index.proofs.range.is_gap.Goals.{else-asked-operations-2-via-else-asked-operations-2}

pub returns : goal.returns
returns c = λ _.
    let operations = c.args.operations.now in
    let scope = c.args.scope.now in
    none_at Retirement scope operations c.requires.ascending c.requires.are c.args.asked c.if-asked-operations.false
    (elim c.else-asked-gt0.branch [
      | else-asked-gt0-via-then-asked-gt0+else-not-is_lt w ↦
          below_place Retirement scope operations c.requires.ascending c.requires.are c.args.asked
          c.if-asked-operations.false w.index-operations-asked.result w.if-asked-gt0.true w.index-operations-asked.is
          (ap is_lt (sym w.compare.ensures) ∙ sym w.is_lt.ensures ∙ w.if-not-is_lt.false)
      | else-asked-gt0-via-else-asked-gt0 w ↦ λ k d low high. absurd (omega (arith, w.if-asked-gt0.false))
    ])
    (elim c.else-asked-operations-2.branch [
      | else-asked-operations-2-via-then-asked-operations-2+else-not-is_gt w ↦
          above_place Retirement scope operations c.requires.ascending c.requires.are c.args.asked
          c.if-asked-operations.false w.index-operations-asked-then-asked-operations-2.result
          w.if-asked-operations-2.true w.index-operations-asked-then-asked-operations-2.is
          (ap is_gt (sym w.compare-then-asked-operations-2.ensures) ∙ sym w.is_gt.ensures ∙ w.if-not-is_gt.false)
      | else-asked-operations-2-via-else-asked-operations-2 w ↦ λ k d low high. absurd (omega (arith, w.if-asked-operations-2.false))
    ])
