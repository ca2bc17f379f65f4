use Rattle.std.proofs.Common.{◌≡◌, map, take}
use Rattle.archive_image_admission.specs.File.{parts, slice_in}
use Rattle.archive_image_admission.specs.InnerTaking.{file_of}
use Rattle.archive_image_admission.proofs.slicing.slices_of.Given as goal

abbrev pub invariant-parts : goal.invariant-parts
invariant-parts l = l.slices.items ≡ map slice_in (take l.index (parts (file_of l.accepted)))
