use Rattle.archive_records.proofs.RecordSteps.{Stopped-behind, Stopped-end}
use Rattle.archive_records.proofs.reader.RecordReader.finish.Goals as goal

pub returns-in-Ok-false-clause-stopped : goal.returns-in-Ok-false-clause-stopped
returns-in-Ok-false-clause-stopped g c =
    let more = c.in-Ok-false.ensures.more c.in-Ok-false.field-0-test in
    rw (← c.self.view_is) (λ file a records counts h. Stopped-behind file counts a _ _ records more.0 _ h more.1)

pub returns-in-Err-clause-stopped : goal.returns-in-Err-clause-stopped
returns-in-Err-clause-stopped g c = rw (← c.self.view_is) (λ file a records counts h. Stopped-end file counts a _ _ records _ h c.in-Err.ensures.err)

pub returns-in-Ok-false-clause-stopped_beside : goal.returns-in-Ok-false-clause-stopped_beside
returns-in-Ok-false-clause-stopped_beside g c =
    let more = c.in-Ok-false.ensures.more c.in-Ok-false.field-0-test in
    rw (← c.self.view_is) (λ shared file a records counts h. Stopped-behind file counts a _ _ records more.0 _ h more.1)

pub returns-in-Err-clause-stopped_beside : goal.returns-in-Err-clause-stopped_beside
returns-in-Err-clause-stopped_beside g c = rw (← c.self.view_is)
    (λ shared file a records counts h. Stopped-end file counts a _ _ records _ h c.in-Err.ensures.err)
