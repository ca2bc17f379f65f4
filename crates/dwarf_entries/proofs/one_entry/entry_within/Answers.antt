use Rattle.std.proofs.Common.{◌≡◌, ◌∙◌, ℕ, List, Some, ap, sym, arith, take, drop}
use Rattle.std.specs.Option.{option_map}
use Rattle.dwarf_entries.specs.Entries.{EntryRecord, entry_within, left_after}
use Rattle.dwarf_entries.specs.EntryViews.{unread_view}
use Rattle.dwarf_entries.proofs.EntryLemmas.{one_found, one_missing, entry_less}
use Rattle.dwarf_entries.proofs.one_entry.entry_within.Goals as goal

pub returns-in_err-entry : goal.returns-in_err-entry
returns-in_err-entry c =
    let missing = one_missing c.args.abbreviations.now c.args.header.now c.args.unit.now c.args.offset c.args.room
    c.if-offset-header.false (sym (rw (c.table-table.ensures.0, c.bytes_at-bytes.ensures) at
    c.in_err-entry.ensures)) in
    rw c.from_residual.ensures (sym missing)

pub overflow_sub-result : goal.overflow_sub-result
overflow_sub-result c =
    omega (
      arith,
      entry_less c.args.abbreviations.now c.args.header.now c.bytes_at-bytes.result.now c.in_ok-entry.rest.now
          (option_map unread_view c.in_ok-entry.entry) (rw c.table-table.ensures.0 at c.in_ok-entry.ensures),
    )

pub returns-in-Some : goal.returns-in-Some
returns-in-Some c =
    let found : option_map (λ (e : EntryRecord). (e, left_after c.args.room (take c.args.room (drop c.args.offset c.args.unit.now)) c.in_ok-entry.rest.now))
    (option_map unread_view c.in_ok-entry.entry)
    ≡ entry_within c.args.room c.args.abbreviations.now c.args.header.now c.args.unit.now c.args.offset =
    one_found c.args.abbreviations.now c.args.header.now c.args.unit.now c.args.offset _ _ c.args.room c.if-offset-header.false
    (rw (c.table-table.ensures.0, c.bytes_at-bytes.ensures) at c.in_ok-entry.ensures) in
    ap (λ (e : EntryRecord). Some (e, left_after c.args.room c.bytes_at-bytes.result.now c.in_ok-entry.rest.now)) c.read.ensures
    ∙ ap (λ (b : List ℕ). Some (unread_view c.in-Some.entry, left_after c.args.room b c.in_ok-entry.rest.now)) c.bytes_at-bytes.ensures
    ∙ rw c.in-Some.is at found

pub returns-in-None : goal.returns-in-None
returns-in-None c =
    let found : option_map (λ (e : EntryRecord). (e, left_after c.args.room (take c.args.room (drop c.args.offset c.args.unit.now)) c.in_ok-entry.rest.now))
    (option_map unread_view c.in_ok-entry.entry)
    ≡ entry_within c.args.room c.args.abbreviations.now c.args.header.now c.args.unit.now c.args.offset =
    one_found c.args.abbreviations.now c.args.header.now c.args.unit.now c.args.offset _ _ c.args.room c.if-offset-header.false
    (rw (c.table-table.ensures.0, c.bytes_at-bytes.ensures) at c.in_ok-entry.ensures) in
    rw c.in-None.is at found
