use Rattle.index_format.proofs.Entries.{read_entry}
use Rattle.index_format.proofs.entry.placed_in.Goals as goal

pub returns-clause-bytes : goal.returns-clause-bytes
returns-clause-bytes c = read_entry c.args.bytes.now _ c.requires.long c.state_in.ensures.tag c.key_in.ensures.bytes
    c.digest_in.ensures c.state_in.ensures.kind c.number_at.ensures.bytes c.number_at-2.ensures.bytes
