use Rattle.std.proofs.Common.{◌≡◌, length, nat_eq, take}
use Rattle.table_source_frames.specs.Numbering.{numbered_after}
use Rattle.table_source_frames_build.specs.KeptViews.{kept_view}
use Rattle.table_source_frames_build.specs.PartNumbers.{name_uses}
use Rattle.table_source_frames_build.proofs.kept.Kept.take_names.Given as goal

abbrev pub invariant-loop-scope : goal.invariant-loop-scope
invariant-loop-scope l = record {
  count : length l.texts.uses.given.items ≡ length l.fn.texts.uses.given.items;
  before : l.texts.before ≡ l.fn.texts.before;
  places : l.texts.places ≡ l.fn.texts.places;
  order : l.texts.uses.order.items ≡ numbered_after nat_eq l.fn.texts.uses.order.items
      (name_uses (kept_view l.self) l.fn.texts.places.items (take l.scope-index l.scopes));
}
