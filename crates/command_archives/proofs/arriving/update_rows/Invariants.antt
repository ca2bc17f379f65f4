use Rattle.std.proofs.Common.{◌≡◌, ℕ, List, length, map}
use Rattle.archive_merge.specs.declared.arrivals.Arrival.{Arrival}
use Rattle.archive_merge.specs.Arrivals.{is_new}
use Rattle.command_archives.specs.InnerArriving.{AreFirstRows}
use Rattle.command_archives.proofs.FirstRows.{AreMarked}
use Rattle.command_archives.proofs.arriving.update_rows.Given as goal

abbrev pub invariant-told : goal.invariant-told
invariant-told l = record {
  many : length l.fn.told ≡ length l.fn.first_rows;
  long : length l.rows ≡ length l.fn.rows;
  marked : (arrival : List ℕ → Arrival) (came records : List (List ℕ))
      → AreFirstRows came l.fn.first_rows l.fn.rows records → l.fn.told ≡ map arrival came
      → AreMarked (λ r. is_new (arrival r)) l.fn.rows records l.fn.first_rows l.index l.rows;
}
