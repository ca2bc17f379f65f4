use Rattle.std.proofs.Common.{◌≡◌, ◌∙◌, ◌≤◌, ◌+◌, ◌-◌, ◌*◌, Some, ap, arith, drop, length, slice_get, sym, take}
use Rattle.std.proofs.lemmas.Option.{slice_get_past}
use Rattle.macho_symbols.specs.Symbols.{table_of, entries_of}
use Rattle.macho_symbols.proofs.EntryLemmas.{entry_at, length-entries}
use Rattle.macho_symbols.proofs.symbols.Symbols.entry.Goals as goal

pub returns-then-index-self-clause-entry : goal.returns-then-index-self-clause-entry
returns-then-index-self-clause-entry c =
    let image = c.args.self.now in
    let count : c.self.inside.table.nsyms ≡ (table_of image).nsyms = ap (λ t. t.nsyms) c.self.invariant.table_is
    ∙ ap (λ b. (table_of b).nsyms) c.self.view_is in
    let past : length (entries_of image) ≤ c.args.index =
    omega (
      arith,
      count,
      c.if-index-self.true,
      length-entries (table_of image).nsyms
          (drop (table_of image).symoff image),
    ) in
    sym (slice_get_past (entries_of image) c.args.index past)

pub returns-clause-entry : goal.returns-clause-entry
returns-clause-entry c =
    let image = c.args.self.now in
    let count : c.self.inside.table.nsyms ≡ (table_of image).nsyms = ap (λ t. t.nsyms) c.self.invariant.table_is
    ∙ ap (λ b. (table_of b).nsyms) c.self.view_is in
    let size : 16 * c.args.index + 16 - 16 * c.args.index ≡ 16 = omega arith in
    ap (λ n. Some (take n (drop (16 * c.args.index) c.entry_bytes.result.now))) size
    ∙ sym (ap (λ es. slice_get es c.args.index) (sym c.entry_bytes.ensures.value)
    ∙ entry_at (table_of image).nsyms c.entry_bytes.result.now c.args.index (omega (arith, count, c.if-index-self.false)))
