use Rattle.archive_image_admission.proofs.PartSlices.{one_alone}
use Rattle.archive_image_admission.proofs.slicing.slice_alone.Goals as goal

pub returns : goal.returns
returns c = one_alone c.args.slice _ _ c.requires c.new-slices.ensures.items c.in_ok-push.ensures.items
