use Rattle.std.proofs.Common.{◌≡◌, ◌++◌, drop, length}
use Rattle.table_checked_pages.specs.Groups.{bytes_of, group_rows}
use Rattle.table_source_frames_build.specs.KeptViews.{kept_view}
use Rattle.table_source_frames_build.specs.PartBytes.{groups_by}
use Rattle.table_source_frames_build.proofs.kept.Kept.step_rows.Given as goal

abbrev pub invariant-groups : goal.invariant-groups
invariant-groups l = record {
  groups : l.groups.items ++ group_rows (length l.bytes.items) (drop l.index (groups_by (kept_view l.self) l.parts.scopes.order.items l.steps))
      ≡ group_rows 0 (groups_by (kept_view l.self) l.parts.scopes.order.items l.steps);
  bytes : l.bytes.items ++ bytes_of (drop l.index (groups_by (kept_view l.self) l.parts.scopes.order.items l.steps))
      ≡ bytes_of (groups_by (kept_view l.self) l.parts.scopes.order.items l.steps);
}
