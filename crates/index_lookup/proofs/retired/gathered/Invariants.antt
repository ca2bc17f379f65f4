use Rattle.std.proofs.Common.{◌≡◌, take}
use Rattle.index_lookup.specs.Among.{all_of}
use Rattle.index_lookup.specs.InnerAnswering.{retired_of}
use Rattle.index_lookup.proofs.retired.gathered.Given as goal

abbrev pub invariant-indexes : goal.invariant-indexes
invariant-indexes l = l.retired.items ≡ retired_of l.prefix (all_of (take l.index-index l.indexes))
