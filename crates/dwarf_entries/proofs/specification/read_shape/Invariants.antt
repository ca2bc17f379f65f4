use Rattle.std.proofs.Common.{◌≡◌, length}
use Rattle.dwarf_encoding.specs.Sequences.{ended}
use Rattle.dwarf_entries.specs.Specifications.{specification_at, shaped, shape_at}
use Rattle.dwarf_entries.specs.ShapeViews.{shape_view}
use Rattle.dwarf_entries.proofs.specification.read_shape.Given as goal

abbrev pub invariant-specifications : goal.invariant-specifications
invariant-specifications l = shaped (shape_view l.shape) (ended specification_at l.rest) ≡ shape_at l.bytes

abbrev pub decreases-specifications : goal.decreases-specifications
decreases-specifications l = length l.rest
