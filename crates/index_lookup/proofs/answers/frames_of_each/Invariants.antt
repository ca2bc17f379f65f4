use Rattle.std.proofs.Common.{◌≡◌, map, take}
use Rattle.index_lookup.specs.Views.{frames_at, borrowed_in}
use Rattle.index_lookup.proofs.answers.frames_of_each.Given as goal

abbrev pub invariant-columns : goal.invariant-columns
invariant-columns l = map borrowed_in l.lists.items ≡ map (frames_at l.number) (take l.column-index l.columns)
