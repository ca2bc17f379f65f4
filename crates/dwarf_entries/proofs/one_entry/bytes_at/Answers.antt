use Rattle.std.proofs.lemmas.List.{take_min, drop_min}
use Rattle.dwarf_entries.proofs.one_entry.bytes_at.Goals as goal

pub returns : goal.returns
returns c =
    let from = drop_min c.args.offset c.args.unit.now in
    let most = take_min c.args.room c.split_at.result.1.now in
    cc
