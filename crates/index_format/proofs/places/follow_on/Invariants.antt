use Rattle.std.proofs.Common.{◌+◌, ◌*◌, ◌≤◌, ◌^◌, ◌↔◌, drop, map}
use Rattle.index_format.specs.Entry.{entry_bytes}
use Rattle.index_format.specs.Text.{FollowOn}
use Rattle.index_format.proofs.PlaceLemmas.{all_borrowed}
use Rattle.index_format.proofs.places.follow_on.Given as goal

abbrev pub invariant-following : goal.invariant-following
invariant-following l = record {
  offset_fits : l.offset ≤ 8 + l.entry-index * 2 ^ 64;
  at_fits : l.at ≤ 8 + l.entry-index * 2 ^ 70;
  left : FollowOn l.offset l.at l.end (drop l.entry-index (map entry_bytes (all_borrowed l.order)))
      ↔ FollowOn 8 8 l.end (map entry_bytes (all_borrowed l.order));
}
