use Rattle.std.proofs.Common.{ap, sym, map}
use Rattle.std.proofs.lemmas.List.{map-append}
use Rattle.archive_core.specs.Names.{name_view}
use Rattle.archive_index.specs.InnerNames.{names_among}
use Rattle.archive_index.proofs.Naming.{names_more}
use Rattle.archive_index.proofs.plain.PlainArchive.gather_names.Goals as goal

pub operations-init : goal.operations-init
unfolding names_among
operations-init c = ap (map name_view) c.new-rows.ensures.items

pub operations-preserved : goal.operations-preserved
operations-preserved c =
    rw (c.in_ok-append.ensures.items, map-append name_view c.operations.rows.items c.in_ok-more.more.items, c.operations.invariant, c.in_ok-more.ensures)
    (sym (names_more c.args.name.now c.args.operations.now c.operations.operation-index c.operation-item.result c.operations-test.true c.operation-item.is))
