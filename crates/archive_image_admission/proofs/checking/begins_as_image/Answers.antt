use Rattle.std.proofs.Common.{◌∙◌, sym}
use Rattle.archive_image_admission.proofs.FileKinds.{thin_begins, other_begins}
use Rattle.archive_image_admission.proofs.checking.begins_as_image.Goals as goal

pub returns-in-Thin : goal.returns-in-Thin
returns-in-Thin c = thin_begins c.args.part.now (sym c.kind.ensures ∙ c.in-Thin.is)

pub returns-in_default : goal.returns-in_default
returns-in_default c = other_begins c.args.part.now (λ e. c.in_default.not-Thin (c.kind.ensures ∙ e))
