use Rattle.std.proofs.Common.{rules}
use Rattle.std.proofs.lemmas.Fn.{always_returns_same}
use Rattle.std.specs.Ordering.{nat_cmp}
use Rattle.std.specs.Cmp.Lexicographic.{slice_cmp, nat_list_cmp_total}
use Rattle.join_core.proofs.Search.{searched}
use Rattle.archive_core.proofs.retirements.search.Goals as goal

pub returns-clause-found : goal.returns-clause-found
returns-clause-found c =
    let facts = c.binary_search_by.ensures in
    let by_bytes = facts.position (λ kept. slice_cmp nat_cmp kept c.args.retirement.now)
    (always_returns_same _ _ _ (λ a r g called. (search rules, search rules))) in
    searched nat_list_cmp_total c.args.records.now c.args.retirement.now c.binary_search_by.result c.requires facts.bound by_bytes
