use Rattle.std.proofs.Common.{◌≡◌, map, take}
use Rattle.command_extract.specs.Wanted.{slice_row}
use Rattle.command_extract.proofs.choosing.rows_of.Given as goal

abbrev pub invariant-slices : goal.invariant-slices
invariant-slices l = l.rows.items ≡ map (λ slice. slice_row slice.now) (take l.slice-index l.slices)
