use Rattle.std.proofs.Common.{sym}
use Rattle.dwarf_entries.specs.ShapeViews.{shape_view}
use Rattle.dwarf_entries.proofs.SpecificationLemmas.{specification_shortens, shape_step, shape_done, shape_fails}
use Rattle.dwarf_entries.proofs.specification.read_shape.Goals as goal

pub specifications-smaller : goal.specifications-smaller
specifications-smaller c = specification_shortens.less c.specifications.rest.now (c.in-Some.specification, c.in-Some.after.now) (sym c.in-Some.ensures)

pub specifications-preserved : goal.specifications-preserved
specifications-preserved c =
    shape_step (shape_view c.specifications.shape) (shape_view c.add.new.self) c.in-Some-specification.specification
    c.specifications.rest.now c.in-Some.after.now _ (rw c.in-Some-specification.is at c.in-Some.ensures)
    c.in_ok-add-in-Some-specification.ensures c.specifications.invariant

pub returns-in-None : goal.returns-in-None
returns-in-None c = shape_done (shape_view c.specifications.shape) c.specifications.rest.now c.in-Some.after.now _
    (rw c.in-None.is at c.in-Some.ensures) c.specifications.invariant

pub returns : goal.returns
returns c = shape_fails (shape_view c.specifications.shape) c.specifications.rest.now _ (sym c.in_default.ensures) c.specifications.invariant
