use Rattle.std.proofs.Common.{refl, take}
use Rattle.archive_index.specs.InnerScan.{held_among}
use Rattle.archive_index.proofs.Lookups.{one_more, none_more}
use Rattle.archive_index.proofs.plain.PlainArchive.answering.Goals.{in-Some, in_default}
use Rattle.archive_index.proofs.plain.PlainArchive.answering.Goals as goal

pub operations-init : goal.operations-init
unfolding held_among
operations-init c = refl

pub operations-preserved : goal.operations-preserved
operations-preserved c =
    let operations = c.args.operations.now in
    let i = c.operations.operation-index in
    let a = c.operation-item.result in
    let before = held_among c.args.key.now c.args.dsym (take i operations) in
    elim c.match-held.branch [
      | in-Some w ↦
          let grown = one_more c.args.key.now c.args.dsym operations i a c.operations-test.true c.operation-item.is
          c.held.result w.in-Some.slice c.held.ensures w.in-Some.is in
          rw (w.answering-is, grown) (w.and-answering.ensures before c.operations.invariant)
      | in_default w ↦
          let same = none_more c.args.key.now c.args.dsym operations i a c.operations-test.true c.operation-item.is
          c.held.result c.held.ensures w.in_default.is in
          rw (w.answering-is, same) c.operations.invariant
    ]
