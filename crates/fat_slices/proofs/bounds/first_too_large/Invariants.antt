use Rattle.fat_slices.specs.FatFault.{IsTooLarge}
use Rattle.fat_slices.specs.InnerTable.{HasNone}
use Rattle.fat_slices.proofs.bounds.first_too_large.Given as goal

abbrev pub invariant-loop-index : goal.invariant-loop-index
invariant-loop-index l = HasNone (IsTooLarge l.file) l.index
