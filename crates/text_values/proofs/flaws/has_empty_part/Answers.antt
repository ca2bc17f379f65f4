use Rattle.std.proofs.Common.{rules, tests}
use Rattle.std.proofs.lemmas.Iterator.Search.{any_from_yields_List}
use Rattle.std.proofs.lemmas.Iterator.Splits.{YieldsList-from_slice_split}
use Rattle.text_values.specs.Flaws.{is_empty}
use Rattle.text_values.proofs.flaws.has_empty_part.Goals as goal

pub returns : goal.returns
returns c =
    any_from_yields_List is_empty _ _ c.any.result c.any.ensures.ran
    (YieldsList-from_slice_split _ _ c.args.line.now c.split.ensures.rest c.split.ensures.done c.split.ensures.closure (λ x r q k. search (rules, tests)))
    (λ x b q k. search (rules, tests))
