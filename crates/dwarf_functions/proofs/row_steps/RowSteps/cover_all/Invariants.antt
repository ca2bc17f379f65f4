use Rattle.std.proofs.Common.{◌≡◌}
use Rattle.std.specs.Prelude.{IfSome}
use Rattle.dwarf_functions.specs.RowCover.{AreKnown}
use Rattle.dwarf_asked_addresses.specs.Rising.{IsCountBelow}
use Rattle.dwarf_functions.proofs.row_steps.RowSteps.cover_all.Given as goal

abbrev pub invariant-loop-row : goal.invariant-loop-row
invariant-loop-row l = record {
  can : (goal.iterator-loop-row).can_next l.row-iterator;
  ends : (goal.iterator-loop-row).is_finite l.row-iterator;
  starts : l.self.starts ≡ l.fn.self.starts;
  first : IfSome l.before (λ row. IsCountBelow l.self.starts.items row.registers.address l.first);
  known : AreKnown l.self.starts.items l.waiting.next.items l.self.rows.items l.before l.row-iterator l.fn.rows;
}
