use Rattle.std.proofs.Common.{◌≡◌, length}
use Rattle.std.specs.Vec.Iter.{into_iter_items, into_iter_len}
use Rattle.archive_core.specs.Content.{IsContent}
use Rattle.archive_core.proofs.Taken.{IsCounted}
use Rattle.archive_index.proofs.taking.take_in_turn.Given as goal

abbrev pub invariant-operations : goal.invariant-operations
invariant-operations g l = record {
  can : (goal.iterator-operations g).can_next l.operation-iterator;
  finite : (goal.iterator-operations g).is_finite l.operation-iterator;
  way : IsCounted (g.A.Join.content l.initial.archive) (g.A.Join.content l.archive)
      (into_iter_items l.initial.operation-iterator) (into_iter_items l.operation-iterator) l.new;
  content : IsContent (g.A.Join.content l.archive);
  long : into_iter_len l.operation-iterator ≡ length (into_iter_items l.operation-iterator);
}
