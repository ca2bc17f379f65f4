use Rattle.std.proofs.Common.{refl}
use Rattle.archive_image_admission.specs.InnerTaking.{file_of}
use Rattle.archive_image_admission.proofs.Fronts.{errs, taking_none, taking_more, stopped_before, stopped_behind}
use Rattle.archive_image_admission.proofs.taking.take_accepted.Goals as goal

pub parts-init : goal.parts-init
parts-init g c = taking_none _ _ _ c.new-rows.ensures.items

pub parts-preserved : goal.parts-preserved
parts-preserved g c =
    let part = c.in_ok-slice.ensures in
    taking_more _ c.parts.index part.0 _ _ _ c.parts.rows.items _ c.in_ok-row.row c.parts.invariant part.1
    (c.in_ok-row.ensures.content part.0 part.2) (c.in_ok-row.ensures.row part.0 part.2) c.in_ok-push.ensures.items

pub returns-in_err-slice-clause-stopped : goal.returns-in_err-slice-clause-stopped
returns-in_err-slice-clause-stopped g c =
    errs _ (stopped_before (file_of c.args.accepted.now) c.parts.index _ _ _ c.parts.rows.items c.parts.invariant refl)

pub returns-in_err-row-clause-stopped : goal.returns-in_err-row-clause-stopped
returns-in_err-row-clause-stopped g c =
    errs _ (stopped_before (file_of c.args.accepted.now) c.parts.index _ _ _ c.parts.rows.items c.parts.invariant c.in_err-row.ensures.refused)

pub returns-in_err-push-clause-stopped : goal.returns-in_err-push-clause-stopped
returns-in_err-push-clause-stopped g c =
    let part = c.in_ok-slice.ensures in
    errs _ (stopped_behind (file_of c.args.accepted.now) c.parts.index part.0 _ _ _ c.parts.rows.items c.parts.invariant
    part.1 (c.in_ok-row.ensures.content part.0 part.2))
