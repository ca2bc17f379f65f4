use Rattle.archive_image_admission.proofs.Accepting.{accepted_thin, refused_thin}
use Rattle.archive_image_admission.proofs.checking.check_thin.Goals as goal

pub returns-in-Ok-clause-accepted : goal.returns-in-Ok-clause-accepted
returns-in-Ok-clause-accepted c = accepted_thin c.args.file.now c.requires c.in-Ok.ensures.valid

pub returns-in-Err-clause-refused : goal.returns-in-Err-clause-refused
returns-in-Err-clause-refused c = refused_thin c.args.file.now c.in-Err.fault c.one_slice_fault.ensures.none c.requires c.in-Err.ensures.faulty
