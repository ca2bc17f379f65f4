use Rattle.std.proofs.Common.{◌≡◌, List, ℕ, length, subst, arith}
use Rattle.std.specs.List.{All}
use Rattle.std.proofs.lemmas.List.{take_all}
use Rattle.index_lookup.specs.Among.{all_of}
use Rattle.command_given_indexes.specs.Rows.{AreRowsAmong}
use Rattle.index_format.specs.Tree.{is_under_one}
use Rattle.command_frames.proofs.SliceRows.{longs_more, rows_either_more, rows_none_under}
use Rattle.command_frames.proofs.slices.rows_under.Goals as goal

pub uuids-init : goal.uuids-init
uuids-init c = record {
  rows = rw c.new-rows.ensures.items (rows_none_under (all_of c.args.read.now));
  long = λ k d lt. absurd (omega (arith, lt));
}

pub uuids-preserved : goal.uuids-preserved
uuids-preserved c = record {
  rows = rows_either_more (all_of c.args.read.now) c.args.uuids.now c.uuids.uuid-index c.uuid-item.result
      c.uuids.rows.items c.in_ok-more.more.items c.append.new.self.items
      c.uuids-test.true c.uuid-item.is c.in_ok-append.ensures.items c.uuids.invariant.rows c.in_ok-more.ensures.rows;
  long = longs_more c.args.uuids.now c.uuids.uuid-index c.uuid-item.result c.uuids-test.true c.uuid-item.is c.uuids.invariant.long c.in_ok-more.ensures.long;
}

pub returns-clause-rows : goal.returns-clause-rows
returns-clause-rows c =
    subst (λ (uuids : List (List ℕ)). AreRowsAmong (is_under_one uuids) (all_of c.args.read.now) c.uuids.rows.items)
    (take_all c.uuids.uuid-index c.args.uuids.now (omega (arith, c.uuids-test.false))) c.uuids.invariant.rows

pub returns-clause-long : goal.returns-clause-long
returns-clause-long c =
    subst (λ (uuids : List (List ℕ)). All (λ u. length u ≡ 16) uuids)
    (take_all c.uuids.uuid-index c.args.uuids.now (omega (arith, c.uuids-test.false))) c.uuids.invariant.long
