use Rattle.std.proofs.Common.{ℕ, List, Contains, map}
use Rattle.archive_core.specs.Record.{admission_record}
use Rattle.archive_core.proofs.Members.{in_flat_map, to_flat_map}
use Rattle.archive_core.proofs.Taken.{taken_are_joined}
use Rattle.archive_image_admission.specs.File.{admissible}
use Rattle.archive_image_admission.proofs.Resumed.{admitted_alike}
use Rattle.command_archives.specs.Admit.{images_of}
use Rattle.laws_archive.proofs.outcome_laws.admitted_in_any_order.Goals as goal

same_images : (files others : List (List ℕ)) → ((file : List ℕ) → Contains files file → Contains others file)
    → (image : List ℕ) → Contains (images_of files) image → Contains (images_of others) image
same_images files others all image in_all =
    let found = in_flat_map admissible files image in_all in to_flat_map admissible others found.0 image (all found.0 found.1) found.2

pub returns : goal.returns
returns c = record {
  content = λ o files. taken_are_joined o (map admission_record (images_of files));
  order = λ o files others is same. admitted_alike o (images_of files) (images_of others) is
      (λ image. (same_images files others (λ file. (same file).0) image, same_images others files (λ file. (same file).1) image));
}
