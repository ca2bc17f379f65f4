use Rattle.std.proofs.Common.{Some, refl}
use Rattle.std.proofs.lemmas.Result.{err_from_is_err_and}
use Rattle.archive_merge.specs.Sides.{side_with}
use Rattle.archive_merge.proofs.Starts.{stands_held, counts_of}
use Rattle.archive_records.proofs.RecordSteps.{Stopped-with, HasReadAll-grows}
use Rattle.archive_merge.proofs.side.MergeInput.advance.Goals as goal

pub returns-in_err-advance_beside-clause-stands : goal.returns-in_err-advance_beside-clause-stands
returns-in_err-advance_beside-clause-stands g c = λ a done h.
    let p = err_from_is_err_and c.from_residual.result c.from_residual.ensures.1 in
    let e = c.in_err-advance_beside.ensures in
    rw (p.1, p.2) (Stopped-with c.args.self.now.reader.file a _ _ done (side_with c.args.shared.now c.args.self.now).reader _ _ h e.0 e.2)

pub returns-in_err-finish-in-End-clause-stands : goal.returns-in_err-finish-in-End-clause-stands
returns-in_err-finish-in-End-clause-stands g c = λ a done h.
    let p = err_from_is_err_and c.from_residual-in_err-finish-in-End.result c.from_residual-in_err-finish-in-End.ensures.1 in
    let step = rw c.in-End.is at c.in_ok-advance_beside.ensures in
    let file = c.args.self.now.reader.file in
    let e = c.in_err-finish-in-End.ensures in
    rw (p.1, p.2) (
      e.stopped_beside (Some c.args.shared.now) file a done (counts_of file c.requires.archive)
          (HasReadAll-grows file a _ _ done (side_with c.args.shared.now c.args.self.now).reader _ h step.0),
      λ memory. absurd (e.memory memory),
    )

pub returns-in-Item-clause-stands : goal.returns-in-Item-clause-stands
returns-in-Item-clause-stands g c = λ a done h.
    let step = rw c.in-Item.is at c.in_ok-advance_beside.ensures in
    stands_held a _ _ done (side_with c.args.shared.now c.args.self.now).reader _ c.requires.archive h step.0 refl
