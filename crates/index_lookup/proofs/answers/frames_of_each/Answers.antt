use Rattle.std.proofs.Common.{map, ap, ◌∙◌, arith}
use Rattle.std.proofs.lemmas.List.{take_all}
use Rattle.index_lookup.specs.Views.{frames_at, borrowed_in}
use Rattle.index_lookup.proofs.Columns.{rows_more}
use Rattle.index_lookup.proofs.answers.frames_of_each.Goals as goal

pub columns-preserved : goal.columns-preserved
columns-preserved c =
    rows_more (frames_at c.args.number) borrowed_in c.args.columns.now c.columns.column-index c.column-item.result
    c.columns.lists.items c.push.new.self.items c.in_ok-frames.frames c.columns-test.true c.column-item.is
    c.in_ok-push.ensures.items
    c.in_ok-frames.ensures c.columns.invariant

pub returns : goal.returns
returns c = c.columns.invariant ∙ ap (map (frames_at c.args.number)) (take_all c.columns.column-index c.args.columns.now (omega (arith, c.columns-test.false)))
