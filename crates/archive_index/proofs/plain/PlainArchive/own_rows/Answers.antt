use Rattle.std.proofs.Common.{ap, take, ◌∙◌}
use Rattle.archive_index.specs.InnerScan.{held_among}
use Rattle.archive_index.proofs.Lookups.{one_more, none_more, rows_more}
use Rattle.archive_index.proofs.plain.PlainArchive.own_rows.Goals.{in-Some+in_ok-push, in_default}
use Rattle.archive_index.proofs.plain.PlainArchive.own_rows.Goals as goal

pub operations-init : goal.operations-init
unfolding held_among
operations-init c = rw c.new-rows.ensures.items tt

pub operations-preserved : goal.operations-preserved
operations-preserved c =
    let operations = c.args.operations.now in
    let i = c.operations.operation-index in
    let a = c.operation-item.result in
    let rows = c.match-held.rows.items in
    let before = held_among c.args.key.now c.args.dsym (take i operations) in
    elim c.match-held.branch [
      | in-Some+in_ok-push w ↦
          let grown = one_more c.args.key.now c.args.dsym operations i a c.operations-test.true c.operation-item.is
          c.held.result w.in-Some.slice c.held.ensures w.in-Some.is in
          rw grown (rows_more c.args.asked before c.operations.rows.items rows w.in-Some.slice w.row.result
          c.operations.invariant w.row.ensures (ap (λ v. v.items) w.rows-is ∙ w.in_ok-push.ensures.items))
      | in_default w ↦
          let same = none_more c.args.key.now c.args.dsym operations i a c.operations-test.true c.operation-item.is
          c.held.result c.held.ensures w.in_default.is in
          rw (same, w.rows-is) c.operations.invariant
    ]
