use Rattle.std.proofs.Common.{List, ℕ, rules, ap, ◌∙◌}
use Rattle.std.specs.List.{list_any}
use Rattle.std.specs.Str.{bytes_eq}
use Rattle.std.proofs.lemmas.Fn.{always_returns_same}
use Rattle.index_lookup.proofs.Retirements.{found, place_of}
use Rattle.index_lookup.proofs.retired.is_retired.Goals as goal

pub returns : goal.returns
returns c =
    let sought = c.subject_of-sought.result in
    let facts = c.binary_search_by.ensures in
    let by_bytes = facts.position (place_of sought) (always_returns_same _ _ _ (λ a r g called. (search rules, search rules))) in
    c.is_ok.ensures.value ∙ found sought c.args.retired.now c.binary_search_by.result c.requires facts.bound by_bytes
    ∙ ap (λ (b : List ℕ). list_any (λ subject. bytes_eq subject b) c.args.retired.now) c.subject_of-sought.ensures
