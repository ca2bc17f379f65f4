use Rattle.command_frames.proofs.TiedSlices.{slices_tell, unread_told}
use Rattle.command_frames.proofs.tied.answer_by_slices.Goals as goal

pub returns-in_ok-told-in-Ok : goal.returns-in_ok-told-in-Ok
returns-in_ok-told-in-Ok g c =
    let told = slices_tell g.P.Placed.whole g.P.Placed.failures c.args.key.now c.args.read.now c.args.sizes.now c.args.archives.now
    c.read_prefixes.new.archives c.args.lines c.args.slices c.args.places.now c.requires.tied
    c.read_prefixes.auto.archives c.in-Ok.ensures.kept (g.A.Join.content c.in-Ok.kept) c.in_ok-told-in-Ok.told.items
    c.in-Ok.ensures.read c.in_ok-told-in-Ok.ensures in
    record { is = told; unfailed = c.in-Ok.ensures.read.unfailed }

pub returns-in-Err : goal.returns-in-Err
returns-in-Err g c =
    rw c.reply_to_unread.ensures (unread_told g.P.Placed.whole g.P.Placed.failures c.args.key.now c.args.read.now c.args.sizes.now
    c.args.archives.now c.read_prefixes.new.archives c.args.lines c.args.slices c.args.places.now c.requires.tied
    c.read_prefixes.auto.archives c.in-Err.ensures.kept c.in-Err.fault c.in-Err.ensures.read)
