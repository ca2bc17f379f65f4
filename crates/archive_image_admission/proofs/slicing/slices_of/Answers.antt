use Rattle.archive_image_admission.specs.File.{parts}
use Rattle.archive_image_admission.specs.InnerTaking.{file_of}
use Rattle.archive_image_admission.proofs.PartSlices.{one_more}
use Rattle.archive_image_admission.proofs.slicing.slices_of.Goals as goal

pub parts-preserved : goal.parts-preserved
parts-preserved c =
    let part = c.in_ok-slice.ensures in
    one_more (parts (file_of c.args.accepted.now)) c.parts.index part.0 c.parts.slices.items _ c.in_ok-slice.slice
    c.parts.invariant part.1 part.2 c.in_ok-push.ensures.items
