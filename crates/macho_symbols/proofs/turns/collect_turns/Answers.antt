use Rattle.std.proofs.Common.{◌∙◌, ◌++◌, List, ℕ, ap, map}
use Rattle.std.specs.Prelude.{flat_map}
use Rattle.std.proofs.lemmas.List.Filters.{dedup_is}
use Rattle.macho_image.specs.SectionViews.{section_view}
use Rattle.macho_symbols.specs.InnerCandidates.{ends_below}
use Rattle.macho_symbols.specs.declared.candidate.Candidate.{Candidate}
use Rattle.macho_symbols.proofs.TurnLemmas.{are_turns}
use Rattle.macho_symbols.proofs.turns.collect_turns.Goals as goal

pub returns : goal.returns
returns c =
    let values : List ℕ = map (λ (k : Candidate). k.value) c.args.candidates.now in
    let ends : List ℕ = flat_map (λ s. ends_below (section_view s)) c.args.sections.now in
    let came = c.in_ok-push_sections.ensures ∙ ap (λ front. front ++ ends)
    (c.in_ok-push_values.ensures ∙ ap (λ none. none ++ values) c.new-turns.ensures.items) in
    λ image are of. are_turns image c.args.candidates.now c.args.sections.now _ _ _ are of came c.sort.ensures.permutation c.in_ok-sort.ensures.sorted
    (dedup_is _ _ _ c.dedup.ensures.filtered)
