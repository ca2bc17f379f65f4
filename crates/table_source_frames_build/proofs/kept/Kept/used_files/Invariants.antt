use Rattle.std.proofs.Common.{◌≡◌, [], length, nat_eq, take}
use Rattle.table_source_frames.specs.Numbering.{numbered_after}
use Rattle.table_source_frames_build.specs.KeptViews.{kept_view}
use Rattle.table_source_frames_build.specs.PartNumbers.{file_uses}
use Rattle.table_source_frames_build.proofs.kept.Kept.used_files.Given as goal

abbrev pub invariant-loop-scope : goal.invariant-loop-scope
invariant-loop-scope l = record {
  count : length l.uses.given.items ≡ length (kept_view l.self).files;
  order : l.uses.order.items ≡ numbered_after nat_eq [] (file_uses (kept_view l.self) (take l.scope-index l.scopes));
}
