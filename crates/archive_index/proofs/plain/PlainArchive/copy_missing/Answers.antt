use Rattle.std.proofs.Common.{ap, sym, ◌∙◌}
use Rattle.archive_core.specs.Content.{changes}
use Rattle.archive_core.specs.Record.{record_bytes}
use Rattle.archive_core.specs.declared.operations.Operation.{Operation}
use Rattle.archive_index.proofs.Scanned.{one_kept, one_left_out}
use Rattle.archive_index.proofs.plain.PlainArchive.copy_missing.Goals.{then-not-knows+in_ok-copy+in_ok-push, else-not-knows}
use Rattle.archive_index.proofs.plain.PlainArchive.copy_missing.Goals as goal

pub operations-preserved : goal.operations-preserved
operations-preserved c =
    let self = c.args.self.now in
    let operations = c.args.operations.now in
    let i = c.operations.operation-index in
    let a = c.operation-item.result in
    let old = c.operations.missing.items in
    let new = c.if-not-knows.missing.items in
    let test = λ (operation : Operation). changes self (record_bytes operation) in
    let told = ap (λ o. changes o (record_bytes a)) (sym c.lend-borrowed.ensures.borrowed) in
    elim c.if-not-knows.branch [
      | then-not-knows+in_ok-copy+in_ok-push w ↦
          one_kept test operations i a c.operations-test.true c.operation-item.is old new w.in_ok-copy.copy
          (told ∙ w.if-not-knows.ensures.changes) c.operations.invariant w.in_ok-copy.ensures
          (ap (λ v. v.items) w.missing-is ∙ w.in_ok-push.ensures.items)
      | else-not-knows w ↦
          one_left_out test operations i a c.operations-test.true c.operation-item.is old new
          (told ∙ w.if-not-knows.ensures.changes) c.operations.invariant (ap (λ v. v.items) w.missing-is)
    ]
