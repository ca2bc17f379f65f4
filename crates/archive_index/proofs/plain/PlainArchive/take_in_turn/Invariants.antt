use Rattle.std.proofs.Common.{◌≡◌, length}
use Rattle.std.specs.Vec.Iter.{into_iter_items, into_iter_len}
use Rattle.archive_core.specs.Content.{IsContent}
use Rattle.archive_core.proofs.Taken.{IsUnderWay}
use Rattle.archive_index.proofs.plain.PlainArchive.take_in_turn.Given as goal

abbrev pub invariant-operations : goal.invariant-operations
invariant-operations l = record {
  can : goal.iterator-operations.can_next l.operation-iterator;
  finite : goal.iterator-operations.is_finite l.operation-iterator;
  way : IsUnderWay l.initial.self l.self (into_iter_items l.initial.operation-iterator) (into_iter_items l.operation-iterator);
  content : IsContent l.self;
  long : into_iter_len l.operation-iterator ≡ length (into_iter_items l.operation-iterator);
}
