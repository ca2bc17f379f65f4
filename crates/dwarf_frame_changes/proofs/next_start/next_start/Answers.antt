use Rattle.dwarf_frame_changes.proofs.StepWalks.{next_is}
use Rattle.dwarf_frame_changes.proofs.next_start.next_start.Goals as goal

pub returns : goal.returns
returns c = λ address rows links.
    next_is c.args.rows.now c.args.links.now c.args.row c.args.link address c.requires.rows c.requires.links rows links
    c.start_at.result c.start_at-2.result c.least.result
    c.start_at.ensures c.start_at-2.ensures c.least.ensures
