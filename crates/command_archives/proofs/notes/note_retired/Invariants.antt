use Rattle.std.proofs.Common.{◌≡◌, ◌++◌, ℕ, List, length, map, take}
use Rattle.std.specs.List.{flat_map}
use Rattle.archive_core.specs.Record.{record_bytes}
use Rattle.archive_merge.specs.declared.arrivals.Arrival.{Arrival}
use Rattle.command_archives.specs.InnerNotes.{note_of}
use Rattle.command_archives.proofs.notes.note_retired.Given as goal

abbrev pub invariant-arrived : goal.invariant-arrived
invariant-arrived l = record {
  many : length l.fn.arrived ≡ length l.fn.operations;
  noted : (arrival : List ℕ → Arrival) → l.fn.arrived ≡ map arrival (map record_bytes l.fn.operations)
      → l.notes.items ≡ l.fn.notes.items ++ flat_map (λ operation. note_of (arrival (record_bytes operation)) operation) (take l.index l.fn.operations);
}
