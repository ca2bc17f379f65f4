use Rattle.std.proofs.Common.{sym, ◌∙◌}
use Rattle.std.proofs.lemmas.Result.{IfOk-weaker}
use Rattle.archive_image_admission.proofs.PartSlices.{none_row, slice_row}
use Rattle.archive_image_admission.proofs.taking.take_part.Goals as goal

pub returns-in-Some-clause-row : goal.returns-in-Some-clause-row
returns-in-Some-clause-row g c =
    IfOk-weaker c.take_slice.result _ _ (λ row row_is part is. slice_row _ part _ row (sym c.in-Some.is ∙ is) row_is) c.take_slice.ensures.row

pub returns-in-None-clause-row : goal.returns-in-None-clause-row
returns-in-None-clause-row g c = λ part is. none_row _ part (sym c.in-None.is ∙ is)
