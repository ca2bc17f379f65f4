use Rattle.std.proofs.Common.{List, ℕ, subst, arith}
use Rattle.std.proofs.lemmas.List.{take_all}
use Rattle.archive_core.specs.Part.{is_under}
use Rattle.index_lookup.specs.Among.{all_of}
use Rattle.command_given_indexes.specs.Rows.{AreRowsAmong}
use Rattle.command_frames.proofs.SliceRows.{rows_more, rows_none}
use Rattle.command_frames.proofs.slices.rows_in_each.Goals as goal

pub indexes-init : goal.indexes-init
indexes-init c = rw c.new-rows.ensures.items (rows_none (is_under c.args.uuid))

pub indexes-preserved : goal.indexes-preserved
indexes-preserved c =
    rows_more (is_under c.args.uuid) c.args.read.now c.indexes.index-index c.index-item.result c.indexes.rows.items
    c.in_ok-more.more.items c.append.new.self.items
    c.indexes-test.true c.index-item.is c.in_ok-append.ensures.items c.indexes.invariant c.in_ok-more.ensures

pub returns-clause-rows : goal.returns-clause-rows
returns-clause-rows c =
    subst (λ (all : List (List (List ℕ))). AreRowsAmong (is_under c.args.uuid) (all_of all) c.indexes.rows.items)
    (take_all c.indexes.index-index c.args.read.now (omega (arith, c.indexes-test.false))) c.indexes.invariant
