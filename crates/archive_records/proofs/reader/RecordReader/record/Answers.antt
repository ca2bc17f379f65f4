use Rattle.archive_records.proofs.FoundOut.{found_record}
use Rattle.archive_records.proofs.reader.RecordReader.record.Goals as goal

pub record_in-requires : goal.record_in-requires
record_in-requires c = rw c.deref.ensures.value (found_record c.self.inside.buffer.bytes.items c.self.inside.found
    (rw (← c.self.view_is) at c.requires) c.self.invariant.1)
