use Rattle.std.proofs.Common.{◌≡◌, length}
use Rattle.std.specs.FinSet.{from_list}
use Rattle.std.specs.Vec.Iter.{into_iter_items, into_iter_len}
use Rattle.archive_core.specs.Content.{Operations, IsMade}
use Rattle.archive_index.specs.InnerTaking.{IsParting}
use Rattle.archive_index.proofs.parting.by_kind.Given as goal

abbrev pub invariant-operations : goal.invariant-operations
invariant-operations l = record {
  can : goal.iterator-operations.can_next l.operation-iterator;
  finite : goal.iterator-operations.is_finite l.operation-iterator;
  way : (old : Operations) → IsMade old → IsParting old (into_iter_items l.initial.operation-iterator)
      (into_iter_items l.operation-iterator) l.parts.admissions.items l.parts.retirements.items (from_list l.seen);
  long : into_iter_len l.operation-iterator ≡ length (into_iter_items l.operation-iterator);
}
