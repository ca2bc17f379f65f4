use Rattle.std.proofs.Common.{◌≡◌, take}
use Rattle.index_format.specs.InnerPaged.{numbers_of}
use Rattle.index_format.proofs.part_checking.numbers_in.Given as goal

abbrev pub invariant-reading : goal.invariant-reading
invariant-reading l = l.numbers.items ≡ take l.entry-index (numbers_of l.read)
