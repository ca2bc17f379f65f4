use Rattle.std.proofs.Common.{rules, map, ap, ◌∙◌}
use Rattle.std.proofs.lemmas.Fn.{always_returns_same}
use Rattle.std.specs.Cmp.Lexicographic.{slice_cmp, nat_list_cmp_total}
use Rattle.std.specs.Ordering.{nat_cmp}
use Rattle.std.specs.FinSet as set
use Rattle.join_core.proofs.Search.{searched_by}
use Rattle.archive_records.specs.Entry.{entry_bytes}
use Rattle.archive_records.proofs.Summarised.{found_is}
use Rattle.archive_records.proofs.summary.Summary.has.Goals as goal

pub returns : goal.returns
returns c =
    let facts = c.binary_search_by.ensures in
    let key = entry_bytes c.args.entry.now in
    let items = c.deref.result.now in
    let by_bytes = facts.position (λ held. slice_cmp nat_cmp (entry_bytes held) key)
    (always_returns_same _ _ _ (λ a r g called. (search rules, search rules))) in
    let bound = facts.bound in
    let listed = rw (← c.deref.ensures.value) at c.self.invariant in
    let found = searched_by nat_list_cmp_total entry_bytes key items c.binary_search_by.result listed.ascending bound by_bytes in
    c.is_ok.ensures.value ∙ found_is (map entry_bytes items) key c.binary_search_by.result found
    ∙ rw (c.deref.ensures.value) (ap (λ s. set.contains s key) c.self.view_is)
