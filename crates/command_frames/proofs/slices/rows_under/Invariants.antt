use Rattle.std.proofs.Common.{◌≡◌, length, take}
use Rattle.std.specs.List.{All}
use Rattle.index_lookup.specs.Among.{all_of}
use Rattle.command_given_indexes.specs.Rows.{AreRowsAmong}
use Rattle.index_format.specs.Tree.{is_under_one}
use Rattle.command_frames.proofs.slices.rows_under.Given as goal

abbrev pub invariant-uuids : goal.invariant-uuids
invariant-uuids l = record {
  rows : AreRowsAmong (is_under_one (take l.uuid-index l.uuids)) (all_of l.read) l.rows.items;
  long : All (λ uuid. length uuid ≡ 16) (take l.uuid-index l.uuids);
}
