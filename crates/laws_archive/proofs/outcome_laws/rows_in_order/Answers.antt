use Rattle.std.proofs.Common.{◌≡◌, ℕ, ◌+◌, List, [], ◌∷◌, ◌++◌, length, length-take, take, take-append-drop, drop}
use Rattle.std.proofs.Common.{drop-cons, Some, refl, sym, ap, ◌∙◌, add-one, arith, slice_get, append-nil}
use Rattle.std.proofs.lemmas.Option.{get_or_from_slice_get, slice_get_within}
use Rattle.std.proofs.lemmas.Grind.{flat_map-append}
use Rattle.archive_core.specs.Content.{Operations}
use Rattle.archive_image_admission.specs.File.{parts, admissible}
use Rattle.archive_image_admission.specs.Take.{admitted, taken_rows}
use Rattle.archive_image_admission.proofs.Fronts.{front_more as front_with}
use Rattle.archive_image_admission.proofs.Rows.{admitted-append}
use Rattle.text_reports.specs.declared.rows.AdmitRow.{AdmitRow}
use Rattle.command_archives.specs.Admit.{images_of, file_rows, admit_rows}
use Rattle.command_archives.proofs.Files.{admit_rows-append}
use Rattle.laws_archive.proofs.outcome_laws.rows_in_order.Goals as goal

-- a list with the element at a place between what is before and after it
cut_at : (files : List (List ℕ)) (place : ℕ) (file : List ℕ) → slice_get files place ≡ Some file → files ≡ take place files ++ file ∷ drop (place + 1) files
cut_at files place file is =
    let lt = slice_get_within files place file is in
    sym (take-append-drop place files) ∙ ap (λ (fs : List (List ℕ)). take place files ++ fs)
    (rw (add-one, drop-cons files place [] lt, get_or_from_slice_get files place file [] is) refl)

from_start : (files : List (List ℕ)) (place : ℕ) (file : List ℕ) → slice_get files place ≡ Some file → 0 + length (take place files) ≡ place
from_start files place file is = omega (arith, length-take place files, slice_get_within files place file is)

-- the rows of a file, and of those after it
rows_from : (o : Operations) (place : ℕ) (file : List ℕ) (rest : List (List ℕ)) → admit_rows o place (file ∷ rest)
    ≡ file_rows place 0 (taken_rows o (parts file)) ++ admit_rows (admitted o (admissible file)) (place + 1) rest
unfolding admit_rows
rows_from o place file rest = refl

-- the content after the files up to a place
content_to : (o : Operations) (files : List (List ℕ)) (place : ℕ) (file : List ℕ) → slice_get files place ≡ Some file
    → admitted (admitted o (images_of (take place files))) (admissible file) ≡ admitted o (images_of (take (place + 1) files))
content_to o files place file is =
    let both : images_of (take (place + 1) files) ≡ images_of (take place files) ++ admissible file =
    rw (front_with files place file is, flat_map-append admissible (take place files) (file ∷ []), append-nil (admissible file)) refl in
    rw both (sym (admitted-append o (images_of (take place files)) (admissible file)))

pub returns : goal.returns
returns c = λ o files place file is.
    let before = take place files in
    let behind = drop (place + 1) files in
    ap (λ (fs : List (List ℕ)). admit_rows o 0 fs) (cut_at files place file is)
    ∙ admit_rows-append o 0 before (file ∷ behind)
    ∙ ap (λ (rows : List AdmitRow). admit_rows o 0 before ++ rows)
    (rw (
      from_start files place file is,
      rows_from (admitted o (images_of before)) place file behind,
      content_to o files place file is,
    ) refl)
