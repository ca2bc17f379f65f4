use Rattle.std.proofs.Common.{◌≡◌, take, map}
use Rattle.join_core.specs.Listing.{listing}
use Rattle.archive_core.specs.Summary.{entry}
use Rattle.archive_records.specs.Entry.{entry_bytes}
use Rattle.archive_records.proofs.summary.entries_of.Given as goal

-- the entries of the records so far
abbrev pub invariant-entries : goal.invariant-entries
invariant-entries g l = record { are : map entry_bytes l.entries.items ≡ map entry (take l.i (listing (g.A.Join.content l.archive))) }
