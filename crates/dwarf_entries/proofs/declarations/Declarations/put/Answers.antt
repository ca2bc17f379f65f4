use Rattle.std.proofs.Common.{arith, refl}
use Rattle.dwarf_entries.proofs.KeyLemmas.{on_both, put_row, put_other}
use Rattle.dwarf_entries.proofs.declarations.Declarations.put.Goals as goal

pub returns-then-code-count_of : goal.returns-then-code-count_of
returns-then-code-count_of c =
    on_both c.push_row.result c.push_row.ensures.here c.push_row.ensures.others
    (λ here others. put_row c.args.self.now (record { rows = c.push_row.new.by_table; others = c.args.self.now.others })
    c.args.table c.args.code c.args.declaration refl (omega (arith, c.count_of.ensures)) here others)

pub returns : goal.returns
returns c =
    put_other c.args.self.now (record { rows = c.args.self.now.rows; others = c.insert.new.self }) c.args.table
    c.args.code c.args.declaration refl c.requires (λ q. c.in_ok-insert.ensures.updates.0 q)
