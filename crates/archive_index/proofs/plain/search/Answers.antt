use Rattle.std.proofs.Common.{rules}
use Rattle.std.proofs.lemmas.Fn.{always_returns_same}
use Rattle.std.proofs.lemmas.Cmp.{nat_list_cmp_total}
use Rattle.std.specs.Ordering.{nat_cmp}
use Rattle.std.specs.Cmp.Lexicographic.{slice_cmp}
use Rattle.join_core.proofs.Search.{searched_by}
use Rattle.archive_core.specs.Record.{record_bytes}
use Rattle.archive_index.proofs.plain.search.Goals as goal

pub returns-clause-found : goal.returns-clause-found
returns-clause-found c =
    let facts = c.binary_search_by.ensures in
    let by_record = facts.position (λ held. slice_cmp nat_cmp (record_bytes held) (record_bytes c.args.operation.now))
    (always_returns_same _ _ _ (λ a r g called. (search rules, search rules))) in
    searched_by nat_list_cmp_total record_bytes (record_bytes c.args.operation.now) c.args.operations.now
    c.binary_search_by.result c.requires facts.bound by_record
