use Rattle.std.proofs.Common.{length, ap, sym, ◌∙◌}
use Rattle.archive_image_admission.proofs.PartSlices.{fat_parts, thin_part}
use Rattle.archive_image_admission.proofs.checking.AcceptedFile.part_count.Goals as goal

pub returns-in-Thin-clause-number : goal.returns-in-Thin-clause-number
returns-in-Thin-clause-number c = sym (ap length (thin_part _ _ c.in-Thin.is c.requires))

pub returns-in-Universal-clause-number : goal.returns-in-Universal-clause-number
returns-in-Universal-clause-number c = c.len.ensures.number ∙ sym (ap length (fat_parts _ _ _ c.in-Universal.is c.requires))
