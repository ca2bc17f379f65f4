use Rattle.std.proofs.Common.{sym, ◌∙◌}
use Rattle.command_given_indexes.proofs.Entries.{place_is}
use Rattle.command_given_indexes.proofs.rows.offset_of.Goals as goal

pub returns : goal.returns
returns c =
    let p = c.offset_with.ensures in
    p.offset ∙ sym (place_is c.args.entry.now p.key p.digest p.fits)
