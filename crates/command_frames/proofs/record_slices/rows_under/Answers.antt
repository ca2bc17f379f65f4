use Rattle.std.proofs.Common.{◌++◌, ◌∙◌, List, ap, arith, subst}
use Rattle.std.proofs.lemmas.List.{take_all}
use Rattle.archive_core.specs.declared.find.FindRow.{FindRow}
use Rattle.command_frames.specs.InnerSlices.{AreRowsUnder}
use Rattle.command_frames.proofs.SlicesTold.{search_more}
use Rattle.command_frames.proofs.record_slices.rows_under.Goals as goal

pub uuids-preserved : goal.uuids-preserved
uuids-preserved g c =
    search_more (g.A.Join.content c.args.archive.now) c.args.uuids.now c.uuids.uuid-index c.uuid-item.result
    c.uuids.pool.items c.in_ok-rows.rows.items _ c.uuids-test.true c.uuid-item.is c.in_ok-rows.ensures
    (c.in_ok-extend_from_slice.ensures.items ∙ ap (λ (l : List FindRow). c.uuids.pool.items ++ l) c.deref.ensures.value) c.uuids.invariant

pub returns : goal.returns
returns g c =
    subst (λ uuids. AreRowsUnder (g.A.Join.content c.args.archive.now) uuids c.uuids.pool.items)
    (take_all c.uuids.uuid-index c.args.uuids.now (omega (arith, c.uuids-test.false))) c.uuids.invariant
