use Rattle.std.proofs.Common.{rules, tests}
use Rattle.std.proofs.lemmas.Iterator.Consumers.{YieldsList-at, YieldsList-from_enumerate, YieldsList-from_filter, map_from_collect}
use Rattle.std.proofs.lemmas.Iterator.Splits.{YieldsList-from_slice_split}
use Rattle.text_values.specs.Lines.{counts}
use Rattle.text_values.proofs.LineNumbers.{few_found}
use Rattle.text_values.proofs.lines.lines_that_count.Goals as goal

pub returns-clause-lines : goal.returns-clause-lines
returns-clause-lines c =
    map_from_collect _ c.collect.ensures.ran
    (YieldsList-from_filter _ (λ l. counts l.1)
    (YieldsList-at c.filter.ensures.source
    (YieldsList-from_enumerate
    (YieldsList-at c.enumerate.ensures.source
    (YieldsList-from_slice_split _ _ c.args.bytes.now c.split.ensures.rest c.split.ensures.done c.split.ensures.closure (λ x r q k. search (rules, tests))))
    c.enumerate.ensures.count))
    c.filter.ensures.closure (λ x r q k. search (rules, tests)))

pub returns-clause-few : goal.returns-clause-few
returns-clause-few c = few_found (λ v. v.items) c.args.bytes.now c.collect.result c.requires (returns-clause-lines c)
