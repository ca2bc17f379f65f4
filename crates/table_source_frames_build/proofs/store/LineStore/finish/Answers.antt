use Rattle.std.proofs.Common.{◌∙◌, ◌≡◌, ap, inl, inr, map, rules, subst, sym, List, option_map}
use Rattle.std.proofs.lemmas.List.Sorted.{IsNonDecreasingBy-from_sort_by_key}
use Rattle.table_source_frames.specs.LineTable.{FitsLines, no_lines}
use Rattle.table_source_frames.specs.LineText.{line_text}
use Rattle.table_source_frames_build.specs.KeptViews.{kept_view}
use Rattle.table_source_frames_build.specs.StepViews.{HaveLocations, changed_after, step_of}
use Rattle.table_source_frames_build.specs.StoreViews.{StoreRecord}
use Rattle.table_source_frames_build.specs.WholeText.{IsTextIfFits}
use Rattle.table_source_frames_build.specs.declared.step.Step.{Step}
use Rattle.table_source_frames_build.proofs.KeyLemmas.{IfOk-weaker}
use Rattle.table_source_frames_build.proofs.StoreLemmas.{changed_are, least_are, written}
use Rattle.table_source_frames_build.proofs.store.LineStore.finish.Goals as goal

pub table_within-requires-clause-steps : goal.table_within-requires-clause-steps
table_within-requires-clause-steps c =
    let k = kept_view c.self.inside.kept in
    subst (λ (l : List Step). HaveLocations k l) (sym c.deref-2.ensures.value)
    (changed_are k c.self.inside.kept.right c.self.inside.steps.items c.sort_unstable_by_key.new.self.items
    c.in_ok-changed.changed.items c.self.invariant c.sort_unstable_by_key.ensures.permutation
    (c.in_ok-changed.ensures ∙ ap (changed_after 0) c.deref.ensures.value))

pub returns-in-Some : goal.returns-in-Some
returns-in-Some c =
    let k = kept_view c.self.inside.kept in
    let found = subst (λ o. IsTextIfFits c.args.room c.args.strings.now (map (step_of k) c.deref-2.result.now)
    (option_map (λ t. t.items) o)) c.in-Some.is c.in_ok-bytes.ensures in
    let text = subst (λ (l : List Step). FitsLines c.args.room c.args.strings.now (map (step_of k) l)
    × (c.in-Some.bytes.items ≡ line_text c.args.strings.now (map (step_of k) l))) c.deref-2.ensures.value found in
    written k c.self.inside.kept.right c.args.room c.args.strings.now c.self.inside.steps.items
    c.in_ok-changed.changed.items c.args.self.taken c.in-Some.bytes.items
    (ap (λ (s : StoreRecord). s.taken) c.self.view_is)
    (least_are k c.self.inside.kept.right c.self.inside.steps.items c.sort_unstable_by_key.new.self.items
    c.in_ok-changed.changed.items c.self.invariant c.sort_unstable_by_key.ensures.permutation
    (IsNonDecreasingBy-from_sort_by_key (λ (s : Step). s.start) c.sort_unstable_by_key.new.self.items
    c.sort_unstable_by_key.ensures.sorted (λ a r q k. search rules))
    (c.in_ok-changed.ensures ∙ ap (changed_after 0) c.deref.ensures.value)) (inl text)

pub returns-in-None : goal.returns-in-None
returns-in-None c =
    let k = kept_view c.self.inside.kept in
    let found = subst (λ o. IsTextIfFits c.args.room c.args.strings.now (map (step_of k) c.deref-2.result.now)
    (option_map (λ t. t.items) o)) c.in-None.is c.in_ok-bytes.ensures in
    let not = subst (λ (l : List Step). FitsLines c.args.room c.args.strings.now (map (step_of k) l) → ⊥) c.deref-2.ensures.value found in
    IfOk-weaker c.no_lines.result (λ bytes. bytes.items ≡ no_lines) _
    (λ bytes is.
    written k c.self.inside.kept.right c.args.room c.args.strings.now c.self.inside.steps.items
    c.in_ok-changed.changed.items c.args.self.taken bytes.items
    (ap (λ (s : StoreRecord). s.taken) c.self.view_is)
    (least_are k c.self.inside.kept.right c.self.inside.steps.items c.sort_unstable_by_key.new.self.items
    c.in_ok-changed.changed.items c.self.invariant c.sort_unstable_by_key.ensures.permutation
    (IsNonDecreasingBy-from_sort_by_key (λ (s : Step). s.start) c.sort_unstable_by_key.new.self.items
    c.sort_unstable_by_key.ensures.sorted (λ a r q k. search rules))
    (c.in_ok-changed.ensures ∙ ap (changed_after 0) c.deref.ensures.value)) (inr (not, is)))
    c.no_lines.ensures
