use Rattle.std.proofs.Common.{◌≡◌, ◌+◌, ◌≤◌, ap, sym, ◌∙◌, length, arith, []}
use Rattle.std.specs.Option.{option_map}
use Rattle.dwarf_entries.specs.EntryViews.{unread_view}
use Rattle.dwarf_entries.proofs.EntryLemmas.{entries_next, next_step, next_missing, depth_fits, entry_less}
use Rattle.dwarf_entries.proofs.entries.EntriesIterator.next.Goals as goal

pub entries-init : goal.entries-init
entries-init c = record {
  table = c.self.invariant.3;
  small = c.self.invariant.2;
  within = c.self.invariant.0;
  depth = c.self.invariant.1;
  entries = c.self.view_is;
}

pub returns-in_err-found-clause-steps : goal.returns-in_err-found-clause-steps
returns-in_err-found-clause-steps c =
    let s = c.entries.self-inside in
    let left : entries_next s.table.section.now s.header s.size s.depth s.rest.now
    ≡ [] = next_missing s.table.section.now s.header s.size s.depth c.in_ok-depth.depth s.rest.now c.in_ok-depth.was
    (sym c.in_err-found.ensures) in
    rw c.from_residual-in_err-found.ensures (sym c.entries.invariant.entries ∙ left, left)

pub depth_after-self-inside-requires : goal.depth_after-self-inside-requires
depth_after-self-inside-requires c =
    let s = c.entries.self-inside in
    let less = entry_less s.table.section.now s.header s.rest.now c.in_ok-found.rest.now (option_map unread_view c.in_ok-found.found) c.in_ok-found.ensures in
    let fits : c.in_ok-depth.depth + length s.rest.now ≤ s.size = rw c.in_ok-depth.was at c.entries.invariant.depth in
    omega (arith, less, fits, c.entries.invariant.small)

pub invariant_of-self-in-Some : goal.invariant_of-self-in-Some
invariant_of-self-in-Some c =
    let s = c.entries.self-inside in
    let less = entry_less s.table.section.now s.header s.rest.now c.in_ok-found.rest.now (option_map unread_view c.in_ok-found.found) c.in_ok-found.ensures in
    let fits : c.in_ok-depth.depth + length s.rest.now ≤ s.size = rw c.in_ok-depth.was at c.entries.invariant.depth in (
      omega (arith, less, c.entries.invariant.within),
      depth_fits c.in_ok-depth.depth (length s.rest.now) (length c.in_ok-found.rest.now) s.size
          (option_map unread_view c.in_ok-found.found) c.depth_after-self-inside.result
          c.depth_after-self-inside.ensures fits less,
      c.entries.invariant.small,
      c.entries.invariant.table,
    )

pub entries-smaller : goal.entries-smaller
entries-smaller c =
    let s = c.entries.self-inside in
    entry_less s.table.section.now s.header s.rest.now c.in_ok-found.rest.now (option_map unread_view c.in_ok-found.found) c.in_ok-found.ensures

pub entries-preserved : goal.entries-preserved
entries-preserved c =
    let s = c.entries.self-inside in
    let less = entry_less s.table.section.now s.header s.rest.now c.in_ok-found.rest.now (option_map unread_view c.in_ok-found.found) c.in_ok-found.ensures in
    let fits : c.in_ok-depth.depth + length s.rest.now ≤ s.size = rw c.in_ok-depth.was at c.entries.invariant.depth in
    record {
      table = c.entries.invariant.table;
      small = c.entries.invariant.small;
      within = omega (arith, less, c.entries.invariant.within);
      depth = depth_fits c.in_ok-depth.depth (length s.rest.now) (length c.in_ok-found.rest.now) s.size
          (option_map unread_view c.in_ok-found.found) c.depth_after-self-inside.result
          c.depth_after-self-inside.ensures fits less;
      entries = rw c.in_default.is at (next_step s.table.section.now s.header s.size s.depth
          c.depth_after-self-inside.result c.in_ok-depth.depth s.rest.now c.in_ok-found.rest.now
          (option_map unread_view c.in_ok-found.found) _ c.in_ok-depth.was c.in_ok-found.ensures
          c.depth_after-self-inside.ensures c.entries.invariant.entries);
    }

pub returns-in-Some-clause-steps : goal.returns-in-Some-clause-steps
returns-in-Some-clause-steps c =
    let s = c.entries.self-inside in
    sym (rw c.in-Some.is at (next_step s.table.section.now s.header s.size s.depth c.depth_after-self-inside.result
    c.in_ok-depth.depth s.rest.now c.in_ok-found.rest.now (option_map unread_view c.in_ok-found.found) _
    c.in_ok-depth.was c.in_ok-found.ensures c.depth_after-self-inside.ensures c.entries.invariant.entries))

pub returns-in-Some-clause-goes : goal.returns-in-Some-clause-goes
returns-in-Some-clause-goes c =
    let s = c.entries.self-inside in
    let found = rw c.in-Some.is at (next_step s.table.section.now s.header s.size s.depth
    c.depth_after-self-inside.result c.in_ok-depth.depth s.rest.now c.in_ok-found.rest.now
    (option_map unread_view c.in_ok-found.found) _ c.in_ok-depth.was c.in_ok-found.ensures
    c.depth_after-self-inside.ensures c.entries.invariant.entries) in
    record { on = λ ends. (tt, tt, omega (arith, ap length found)); keeps = tt; rests = λ ends. tt }
