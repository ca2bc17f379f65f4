use Rattle.index_format.proofs.Entries.{made_entry, row_of_borrowed}
use Rattle.index_format.proofs.entry.IndexEntry.of_record.Goals as goal

pub returns-clause-bytes : goal.returns-clause-bytes
returns-clause-bytes c = made_entry _ _ c.args.offset c.args.size c.args.claim
    (row_of_borrowed c.args.record.now _ c.of.ensures.row c.of.ensures.operation c.of.ensures.key) c.requires

pub returns-clause-row : goal.returns-clause-row
returns-clause-row c = row_of_borrowed c.args.record.now _ c.of.ensures.row c.of.ensures.operation c.of.ensures.key
