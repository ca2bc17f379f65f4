use Rattle.std.proofs.Common.{refl}
use Rattle.archive_records.proofs.Forms.{archive_framed, entry-of}
use Rattle.archive_records.proofs.next.test_item.Goals as goal

pub test_slice-requires-clause-whole : goal.test_slice-requires-clause-whole
test_slice-requires-clause-whole c = archive_framed c.args.file c.in-Archive.is c.args.bytes.now c.requires.whole c.requires.item

pub returns-in-Summary-clause-found : goal.returns-in-Summary-clause-found
returns-in-Summary-clause-found c = rw c.in-Summary.is (entry-of c.args.bytes.now (rw c.in-Summary.is at c.requires.whole) c.requires.item, refl)
