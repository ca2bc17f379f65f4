use Rattle.archive_records.specs.Layout.{slice_length}
use Rattle.archive_records.proofs.Framed.{slice_body}
use Rattle.archive_records.proofs.head.admission_body_of.Goals as goal

pub returns-in-Archive : goal.returns-in-Archive
unfolding slice_length
returns-in-Archive c = slice_body c.args.file c.in-Archive.is c.args.head.now _ c.number_at.ensures.number
