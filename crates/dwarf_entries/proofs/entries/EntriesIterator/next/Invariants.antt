use Rattle.std.proofs.Common.{◌≡◌, ◌≤◌, ◌<◌, ◌+◌, ◌^◌, length}
use Rattle.std.specs.Option.{IfSome}
use Rattle.dwarf_entries.proofs.EntryLemmas.{entries_next}
use Rattle.dwarf_entries.proofs.entries.EntriesIterator.next.Given as goal

abbrev pub invariant-entries : goal.invariant-entries
invariant-entries l = record {
  table : l.self-inside.table.offset ≡ l.self-inside.header.debug_abbrev_offset;
  small : l.self-inside.size < 2 ^ 64;
  within : length l.self-inside.rest.now ≤ l.self-inside.size;
  depth : IfSome l.self-inside.depth (λ d. d + length l.self-inside.rest.now ≤ l.self-inside.size);
  entries : entries_next l.self-inside.table.section.now l.self-inside.header l.self-inside.size l.self-inside.depth l.self-inside.rest.now ≡ l.fn.self;
}

abbrev pub decreases-entries : goal.decreases-entries
decreases-entries l = length l.self-inside.rest.now
