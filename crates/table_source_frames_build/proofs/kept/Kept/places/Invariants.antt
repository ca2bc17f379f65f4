use Rattle.std.proofs.Common.{◌≡◌, ◌<◌, ◌-◌, length, true}
use Rattle.table_source_frames.specs.LineText.{begins_string}
use Rattle.table_source_frames_build.specs.KeptViews.{kept_view}
use Rattle.table_source_frames_build.specs.Places.{ArePlacesBelow}
use Rattle.table_source_frames_build.proofs.kept.Kept.places.Given as goal

abbrev pub invariant-strings : goal.invariant-strings
invariant-strings l = record {
  begins : l.from < length l.strings → begins_string l.strings l.from ≡ true;
  places : ArePlacesBelow (kept_view l.self) l.strings l.from l.places.items;
}

abbrev pub decreases-strings : goal.decreases-strings
decreases-strings l = length l.strings - l.from
