use Rattle.archive_image_admission.proofs.Resumed.{above_old, below_asked, asked_again}
use Rattle.archive_image_admission.proofs.laws.taking_resumed.Goals as goal

pub returns : goal.returns
returns c = record {
  above = λ file o mid _ _ part. above_old file o mid part;
  below = λ file o mid _ _ part. below_asked file o mid part;
  again = λ file o mid is part. asked_again file o mid is part;
}
