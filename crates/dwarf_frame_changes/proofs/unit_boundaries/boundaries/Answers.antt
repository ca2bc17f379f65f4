use Rattle.std.proofs.Common.{ℕ, List, subst, ◌↔◌, Contains}
use Rattle.dwarf_source_frames.specs.SectionsViews.{sections_view}
use Rattle.dwarf_frame_changes.proofs.CollectLemmas.{boundaries_are}
use Rattle.dwarf_frame_changes.proofs.unit_boundaries.boundaries.Goals as goal

pub returns-clause-same : goal.returns-clause-same
returns-clause-same c = λ a.
    let all = boundaries_are (sections_view c.args.info.now.sections) c.new-starts.result.items
    c.push_tuples.new.starts.items c.push_units.new.starts.items c.of.result
    c.new-starts.ensures.items c.of.ensures c.in_ok-push_tuples.ensures c.in_ok-push_units.ensures in
    subst (λ (xs : List ℕ). Contains c.sorted_once.result.items a ↔ Contains xs a) all (c.sorted_once.ensures.same a)
