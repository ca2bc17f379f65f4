use Rattle.std.proofs.Common.{map, ap, rules, ◌∙◌}
use Rattle.std.proofs.lemmas.Fn.{dedup_same}
use Rattle.index_lookup.specs.InnerAnswering.{entry_at, has_same_length_elsewhere}
use Rattle.index_lookup.proofs.Lists.{dedup_map}
use Rattle.index_lookup.proofs.order.keep_first_index.Goals as goal

pub returns : goal.returns
returns c =
    let once = dedup_same _ (λ x y. has_same_length_elsewhere (entry_at x) (entry_at y)) _
    (λ x y b f x' y' called. search rules) _ _ c.dedup_by.ensures.filtered in
    ap (map entry_at) once ∙ dedup_map has_same_length_elsewhere entry_at c.args.entries.now.items
