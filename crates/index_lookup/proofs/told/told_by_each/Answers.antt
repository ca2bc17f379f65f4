use Rattle.std.proofs.Common.{List, map, subst, arith}
use Rattle.std.specs.List.{AllZip}
use Rattle.std.proofs.Math.ListN.{length-map}
use Rattle.std.proofs.lemmas.List.{take_all}
use Rattle.std.proofs.lemmas.Result.{err_from_is_err_and}
use Rattle.index_lookup.specs.Among.{EntryAt}
use Rattle.index_lookup.specs.Views.{IsColumnAt}
use Rattle.index_lookup.specs.InnerAnswering.{entry_at}
use Rattle.index_lookup.proofs.Asked.{first_untold, no_memory, none_more, one_told, there_here}
use Rattle.index_lookup.proofs.told.told_by_each.Goals as goal

pub answering-preserved : goal.answering-preserved
answering-preserved g c =
    one_told g.P.Placed.whole g.P.Placed.failures c.args.lines c.args.asked.now c.args.answering.now
    c.answering.numbered-index c.numbered-item.result c.answering-test.true c.numbered-item.is _ _ _
    c.answering.invariant
    c.told_at.new.devices _ c.in_ok-column.column c.in_default.ensures.items c.in_ok-column.ensures

pub told_at-requires : goal.told_at-requires
told_at-requires g c =
    there_here g.P.Placed.whole g.P.Placed.failures c.args.lines c.args.asked.now c.args.answering.now
    c.answering.numbered-index c.numbered-item.result c.answering-test.true c.numbered-item.is _ _ _
    c.answering.invariant c.requires

pub returns-in_err-column-clause-asks : goal.returns-in_err-column-clause-asks
returns-in_err-column-clause-asks g c =
    let p = err_from_is_err_and c.from_residual.result c.from_residual.ensures.1 in
    rw (p.1, p.2)
    (none_more g.P.Placed.whole g.P.Placed.failures c.args.lines c.args.asked.now c.args.answering.now
    c.answering.numbered-index c.numbered-item.result c.answering-test.true c.numbered-item.is _ _ _
    c.answering.invariant
    c.told_at.new.devices c.in_err-column.field-0.0 _ c.in_err-column.ensures)

pub returns-in_err-column-clause-first : goal.returns-in_err-column-clause-first
returns-in_err-column-clause-first g c =
    let p = err_from_is_err_and c.from_residual.result c.from_residual.ensures.1 in
    rw (p.1, p.2)
    (first_untold g.P.Placed.whole g.P.Placed.failures c.args.lines c.args.asked.now c.args.answering.now
    c.answering.numbered-index c.numbered-item.result c.answering-test.true c.numbered-item.is _ _ _
    c.answering.invariant
    c.told_at.new.devices c.in_err-column.field-0.0 c.in_err-column.ensures)

pub returns-in-Err-clause-asks : goal.returns-in-Err-clause-asks
returns-in-Err-clause-asks g c =
    no_memory g.P.Placed.whole g.P.Placed.failures c.args.lines c.args.asked.now c.args.answering.now
    c.answering.numbered-index c.numbered-item.result c.answering-test.true c.numbered-item.is _ _ _
    c.answering.invariant
    c.told_at.new.devices c.in_ok-column.column _ c.in_ok-column.ensures

pub returns-clause-asks : goal.returns-clause-asks
returns-clause-asks g c =
    let xs = map entry_at c.args.answering.now in
    let told = c.answering.invariant in
    record {
      says = λ texts have.
          subst (λ (es : List EntryAt). AllZip (IsColumnAt texts c.args.lines c.args.asked.now) es
          c.answering.columns.items) (take_all c.answering.numbered-index xs
          (omega (arith, length-map c.args.answering.now entry_at, c.answering-test.false))) (told.says texts have);
      keeps = told.keeps;
      counts = told.counts;
    }
