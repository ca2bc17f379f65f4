-- What became of the slices of a file, one part more at a time.
use Rattle.std.proofs.Common.{◌≡◌, ℕ, ◌+◌, true, List, [], ◌∷◌, ◌++◌, Option, Some, None, sym, ap, false, refl}
use Rattle.std.proofs.Common.{Result, Ok, Err}
use Rattle.std.specs.Prelude.{OnOk}
use Rattle.std.proofs.lemmas.Result.{on_ok_weaker}
use Rattle.sha2.specs.Sha256.{sha256}
use Rattle.archive_core.specs.declared.keys.SliceKey.{SliceKey}
use Rattle.archive_core.specs.declared.keys.Digest.{Digest}
use Rattle.archive_core.specs.Content.{Operations, changes}
use Rattle.archive_core.specs.Record.{admission_record}
use Rattle.archive_core.specs.Valid.{key_of}
use Rattle.archive_image_admission.specs.Take.{admitted, taken_of}
use Rattle.archive_image_admission.specs.declared.taken.Taken.TheVariants.{Added, Known, Skipped}
use Rattle.archive_image_admission.proofs.Rows.{row_of}
use Rattle.text_reports.specs.declared.rows.AdmitRow.{AdmitRow}
use Rattle.command_archives.specs.Admit.{file_rows}
use Rattle.command_archives.specs.PassedOver.{part_rows}
use Rattle.command_archives.specs.declared.file_rows.FileRow.TheVariants.{Part}
use Rattle.command_archives.specs.InnerArriving.{images_in, slice_rows, was_added}

-- ---- one slice

pub taken_added : (o : Operations) (image : List ℕ) (key : SliceKey) (digest : Digest) → key ≡ key_of image → digest.0
    ≡ sha256 image → changes o (admission_record image) ≡ true → Added key digest ≡ taken_of o image
taken_added o image key digest key_is digest_is new = row_of o image true key digest (Added key digest) refl key_is digest_is (sym new)

pub taken_known : (o : Operations) (image : List ℕ) (key : SliceKey) (digest : Digest) → key ≡ key_of image → digest.0
    ≡ sha256 image → changes o (admission_record image) ≡ false → Known key digest ≡ taken_of o image
taken_known o image key digest key_is digest_is old = row_of o image false key digest (Known key digest) refl key_is digest_is (sym old)

pub known_row : (row : AdmitRow) (key : SliceKey) (digest : Digest) → row.taken ≡ Known key digest → was_added row.taken ≡ false
known_row row key digest is = ap was_added is

-- ---- one part, before others

pub one_row : (o : Operations) (file number : ℕ) (part : Option (List ℕ)) (slices : List (Option (List ℕ)))
    (now : Operations) → now ≡ admitted o (images_in (part ∷ []))
    → part_rows file number (slice_rows o (part ∷ [])) ++ part_rows file (number + 1) (slice_rows now slices)
    ≡ part_rows file number (slice_rows o (part ∷ slices))
unfolding file_rows slice_rows
one_row o file number None slices now is = ap (λ (q : Operations). Part
    (record { file = file; slice = number; taken = Skipped }) ∷ part_rows file (number + 1) (slice_rows q slices)) is
one_row o file number (Some slice) slices now is = ap (λ (q : Operations). Part
    (record { file = file; slice = number; taken = taken_of o slice })
    ∷ part_rows file (number + 1) (slice_rows q slices)) is

pub one_image : (o : Operations) (part : Option (List ℕ)) (slices : List (Option (List ℕ))) (now : Operations) → now
    ≡ admitted o (images_in (part ∷ [])) → admitted now (images_in slices) ≡ admitted o (images_in (part ∷ slices))
one_image o None slices now is = ap (λ (q : Operations). admitted q (images_in slices)) is
one_image o (Some slice) slices now is = ap (λ (q : Operations). admitted q (images_in slices)) is

-- ---- what results say

pub then_ok : {X E P Q : Type 0} (r : Result X E) → OnOk r P → (P → Q) → OnOk r Q
then_ok r p step = on_ok_weaker r step p

pub always : {X E P : Type 0} (r : Result X E) → P → OnOk r P
always (Ok x) p = p
always (Err e) p = tt
