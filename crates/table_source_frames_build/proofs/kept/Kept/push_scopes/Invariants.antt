use Rattle.std.proofs.Common.{◌≡◌, ◌≤◌, ◌++◌, length}
use Rattle.table_source_frames_build.specs.Kept.{scope_numbers_of}
use Rattle.table_source_frames_build.specs.KeptViews.{kept_view}
use Rattle.table_source_frames_build.proofs.kept.Kept.push_scopes.Given as goal

abbrev pub invariant-callers : goal.invariant-callers
invariant-callers l = record {
  next : l.next ≤ length (kept_view l.self).locations;
  pushed : l.numbers.items ++ scope_numbers_of (kept_view l.self) l.next ≡ l.fn.numbers.items ++ scope_numbers_of (kept_view l.self) l.location;
}

abbrev pub decreases-callers : goal.decreases-callers
decreases-callers l = l.next
