use Rattle.std.proofs.Common.{rules, ◌≡◌, ◌∙◌, ◌*◌, ◌^◌, ◌<◌, ◌≤◌, drop, length, subst, ap, arith}
use Rattle.std.specs.List.{AllByRecursion}
use Rattle.macho_symbols.specs.Nlist.{IsEntry}
use Rattle.macho_symbols.specs.Symbols.{table_of, entries}
use Rattle.macho_symbols.proofs.EntryLemmas.{entries_long, entries_fit, length-entries}
use Rattle.macho_symbols.proofs.FaultLemmas.{symbols_fit}
use Rattle.macho_symbols.proofs.symbols.Symbols.entries.Goals as goal

pub new-requires : goal.new-requires
new-requires c =
    let count : c.self.inside.table.nsyms ≡ (table_of c.args.self.now).nsyms =
    ap (λ t. t.nsyms) c.self.invariant.table_is ∙ ap (λ b. (table_of b).nsyms) c.self.view_is in
    omega (arith, count, c.entry_bytes.ensures.room)

pub returns-clause-all : goal.returns-clause-all
returns-clause-all c =
    let count : c.self.inside.table.nsyms ≡ (table_of c.args.self.now).nsyms =
    ap (λ t. t.nsyms) c.self.invariant.table_is ∙ ap (λ b. (table_of b).nsyms) c.self.view_is in
    c.new.ensures ∙ ap (λ n. entries n c.entry_bytes.result.now) count ∙ c.entry_bytes.ensures.value

pub returns-clause-each : goal.returns-clause-each
returns-clause-each c =
    subst (AllByRecursion IsEntry) c.entry_bytes.ensures.value
    (entries_long (table_of c.args.self.now).nsyms c.entry_bytes.result.now c.entry_bytes.ensures.room)

pub returns-clause-fit : goal.returns-clause-fit
returns-clause-fit c =
    entries_fit c.args.self.now (length c.args.self.now)
    (subst (λ image. 16 * (table_of image).nsyms ≤ length image) c.self.view_is (symbols_fit _ c.self.invariant.sound))

pub returns-clause-few : goal.returns-clause-few
returns-clause-few c =
    let count : c.self.inside.table.nsyms ≡ (table_of c.args.self.now).nsyms =
    ap (λ t. t.nsyms) c.self.invariant.table_is ∙ ap (λ b. (table_of b).nsyms) c.self.view_is in
    let few : c.self.inside.table.nsyms < 2 ^ 32 = search rules in
    omega (arith, count, few, length-entries (table_of c.args.self.now).nsyms (drop (table_of c.args.self.now).symoff c.args.self.now))
