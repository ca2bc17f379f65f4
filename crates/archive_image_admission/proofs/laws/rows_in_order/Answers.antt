use Rattle.archive_image_admission.proofs.RowPlaces.{rows_number, skipped_at, taken_at, there_is_known, covered_is_known}
use Rattle.archive_image_admission.proofs.laws.rows_in_order.Goals as goal

pub returns : goal.returns
returns c = record { number = rows_number; skipped = skipped_at; taken = taken_at; there = there_is_known; covered = covered_is_known }
