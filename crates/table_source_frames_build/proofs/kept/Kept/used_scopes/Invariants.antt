use Rattle.std.proofs.Common.{◌≡◌, [], length, nat_eq, take}
use Rattle.table_source_frames.specs.Numbering.{numbered_after}
use Rattle.table_source_frames_build.specs.KeptViews.{kept_view}
use Rattle.table_source_frames_build.specs.PartNumbers.{scope_uses}
use Rattle.table_source_frames_build.proofs.kept.Kept.used_scopes.Given as goal

abbrev pub invariant-loop-step : goal.invariant-loop-step
invariant-loop-step l = record {
  count : length l.uses.given.items ≡ length (kept_view l.self).scopes;
  empty : l.scopes.items ≡ [];
  order : l.uses.order.items ≡ numbered_after nat_eq [] (scope_uses (kept_view l.self) (take l.step-index l.steps));
}
