use Rattle.archive_index.proofs.Held.{held_none}
use Rattle.archive_index.proofs.plain.PlainArchiveArchive.empty.Goals as goal

pub invariant_of-result : goal.invariant_of-result
invariant_of-result c = rw c.new.ensures.items held_none
