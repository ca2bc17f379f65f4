use Rattle.fat_slices.specs.FatFault.{IsOutside}
use Rattle.fat_slices.specs.InnerTable.{HasNone}
use Rattle.fat_slices.proofs.bounds.first_outside.Given as goal

abbrev pub invariant-loop-index : goal.invariant-loop-index
invariant-loop-index l = HasNone (IsOutside l.file) l.index
