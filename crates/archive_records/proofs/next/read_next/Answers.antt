use Rattle.std.proofs.Common.{refl}
use Rattle.std.proofs.lemmas.Bool.{false≢true}
use Rattle.archive_records.proofs.Ends.{open_end, open_ended}
use Rattle.archive_records.proofs.RecordSteps.{step_to}
use Rattle.archive_records.proofs.FaultKinds.{unended_behind}
use Rattle.archive_records.proofs.next.read_next.Goals as goal

pub returns-in-Ok-clause-step : goal.returns-in-Ok-clause-step
returns-in-Ok-clause-step g c = step_to c.args.file _ c.args.count _ c.read_tested.new.buffer c.in-Ok.step c.in-Ok.ensures.step

pub returns-then-ends_file-clause-step : goal.returns-then-ends_file-clause-step
returns-then-ends_file-clause-step g c =
    let f = c.if-ends_file.ensures.0 refl in
    (open_end c.args.file c.args.count c.read_tested.new.buffer f.1 f.2, open_ended c.args.file _ f.2 (c.in-Err.ensures.reader.2 f.0))

pub returns-then-ends_file-clause-reader : goal.returns-then-ends_file-clause-reader
returns-then-ends_file-clause-reader g c = c.in-Err.ensures.reader.1 (λ device. cc (device, (c.if-ends_file.ensures.0 refl).0))

pub returns-else-ends_file-clause-unended : goal.returns-else-ends_file-clause-unended
returns-else-ends_file-clause-unended g c =
    unended_behind c.args.file _ _ c.read_tested.new.buffer c.in-Err.kind c.read_tested.ensures.within
    (λ part at is. false≢true (c.if-ends_file.ensures.1 (part, at, is))) c.in-Err.ensures.fails
