use Rattle.std.proofs.Common.{◌∙◌, ap}
use Rattle.archive_index.specs.InnerNames.{names_among}
use Rattle.archive_index.proofs.Naming.{names_put}
use Rattle.archive_index.proofs.plain.PlainArchiveArchive.find_name.Goals as goal

pub returns : goal.returns
returns c =
    let operations = c.self.inside.operations.items in
    let gathered = c.in_ok-rows.ensures ∙ ap (names_among c.args.name.now) c.deref.ensures.value in
    names_put c.args.self.now c.args.name.now operations c.self.invariant c.self.view_is _ _ gathered
    c.put_in_order.ensures.ascending c.put_in_order.ensures.same
