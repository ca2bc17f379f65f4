use Rattle.std.proofs.Common.{rules, take, ◌∙◌}
use Rattle.std.proofs.lemmas.Fn.{always_returns_same}
use Rattle.std.specs.Ordering.{nat_cmp}
use Rattle.std.specs.Cmp.Lexicographic.{slice_cmp}
use Rattle.archive_core.proofs.Retired.{prefix_there}
use Rattle.archive_core.proofs.retirements.has_prefix.Goals as goal

pub returns : goal.returns
returns c =
    let facts = c.binary_search_by.ensures in
    let by_prefix = facts.position (λ kept. slice_cmp nat_cmp (take 25 kept) c.args.prefix.now)
    (always_returns_same _ _ _ (λ a r g called. (search rules, search rules))) in
    λ r e h. c.is_ok.ensures.value ∙ prefix_there c.args.records.now c.args.prefix.now c.binary_search_by.result c.requires facts.bound by_prefix r e h
