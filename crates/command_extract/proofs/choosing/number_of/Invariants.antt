use Rattle.std.proofs.Common.{Contains, take}
use Rattle.join_core.specs.Listing.{listing}
use Rattle.archive_core.specs.Record.{admission_record}
use Rattle.command_extract.proofs.choosing.number_of.Given as goal

-- none of the records so far is that of the slice
abbrev pub invariant-numbers : goal.invariant-numbers
invariant-numbers g l = Contains (take l.number (listing (g.A.Join.content l.archive))) (admission_record l.slice) → ⊥
