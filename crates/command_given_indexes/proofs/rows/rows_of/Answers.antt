use Rattle.std.proofs.Common.{List, ℕ, map, subst, arith}
use Rattle.std.specs.List.{AllZip}
use Rattle.std.proofs.Math.ListN.{length-map}
use Rattle.std.proofs.lemmas.List.{take_all}
use Rattle.index_format.specs.Entry.{placed_bytes}
use Rattle.command_given_indexes.specs.Rows.{IsEntryRow}
use Rattle.command_given_indexes.proofs.Entries.{one_row}
use Rattle.command_given_indexes.proofs.rows.rows_of.Goals as goal

pub entries-preserved : goal.entries-preserved
entries-preserved c =
    one_row c.args.entries.now c.entries.entry-index c.entry-item.result c.entries-test.true c.entry-item.is
    c.entries.rows.items c.push.new.self.items c.row_of.result c.in_ok-push.ensures.items c.row_of.ensures
    c.entries.invariant

pub returns : goal.returns
returns c =
    let xs = map placed_bytes c.args.entries.now in
    subst (λ (es : List (List ℕ)). AllZip IsEntryRow es c.entries.rows.items)
    (take_all c.entries.entry-index xs (omega (
      arith,
      length-map c.args.entries.now placed_bytes,
      c.entries-test.false,
    ))) c.entries.invariant
