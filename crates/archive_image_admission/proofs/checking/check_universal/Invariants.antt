use Rattle.fat_slices.specs.Slices.{slices}
use Rattle.archive_image_admission.proofs.Files.{IsChecked}
use Rattle.archive_image_admission.proofs.Found.{AreFoundBelow}
use Rattle.archive_image_admission.proofs.checking.check_universal.Given as goal

abbrev pub invariant-parts : goal.invariant-parts
invariant-parts l = IsChecked (slices l.universal) l.index l.has_slice × AreFoundBelow (slices l.universal) l.index l.found
