use Rattle.archive_image_admission.proofs.Resumed.{admitted_alike}
use Rattle.archive_image_admission.proofs.laws.admitted_in_any_order.Goals as goal

pub returns : goal.returns
returns c = λ o images others is same. admitted_alike o images others is same
