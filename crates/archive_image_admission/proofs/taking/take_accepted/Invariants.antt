use Rattle.archive_image_admission.specs.File.{parts}
use Rattle.archive_image_admission.specs.InnerTaking.{file_of}
use Rattle.archive_image_admission.proofs.Fronts.{IsTaking}
use Rattle.archive_image_admission.proofs.taking.take_accepted.Given as goal

abbrev pub invariant-parts : goal.invariant-parts
invariant-parts g l = IsTaking (parts (file_of l.accepted)) l.index (g.A.Join.content l.fn.archive) (g.A.Join.content l.archive) l.rows.items
