use Rattle.std.proofs.Common.{◌≡◌}
use Rattle.dwarf_ranges.specs.Lists.{left_after}
use Rattle.dwarf_ranges.specs.Views.{entry_at}
use Rattle.dwarf_ranges.proofs.list_format.ListFormat.left_after.Given as goal

abbrev pub invariant-entries : goal.invariant-entries
invariant-entries l = left_after (entry_at l.self) l.left l.rest ≡ left_after (entry_at l.self) l.fn.left l.fn.bytes

abbrev pub decreases-entries : goal.decreases-entries
decreases-entries l = l.left
