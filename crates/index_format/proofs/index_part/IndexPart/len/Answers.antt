use Rattle.std.proofs.Common.{◌≡◌, ℕ, List, length, map, subst, sym}
use Rattle.std.specs.List.{All}
use Rattle.index_format.specs.Entry.{entry_bytes}
use Rattle.index_format.specs.Spread.{HasTagIfRead}
use Rattle.index_format.proofs.PartLemmas.{length_spread}
use Rattle.index_format.proofs.PartTags.{part_tags}
use Rattle.index_format.proofs.index_part.IndexPart.len.Goals as goal

pub returns-clause-len : goal.returns-clause-len
returns-clause-len c =
    let part = c.self.inside in
    subst (λ (es : List (List ℕ)). part.count ≡ length es) c.self.view_is
    (sym (length_spread part.count part.numbers.items (map entry_bytes part.entries.items)))

pub returns-clause-tags : goal.returns-clause-tags
returns-clause-tags c =
    let part = c.self.inside in
    subst (λ (es : List (List ℕ)). All HasTagIfRead es) c.self.view_is
    (part_tags part.count part.numbers.items part.entries.items c.self.invariant.ordered.fields)
