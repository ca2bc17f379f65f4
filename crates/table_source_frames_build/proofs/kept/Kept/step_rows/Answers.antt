use Rattle.std.proofs.Common.{arith, ap, get_or, length, map, subst, sym, List, ◌∙◌, ◌*◌, ◌++◌, ◌<◌, ◌≡◌}
use Rattle.table_checked_pages.specs.Groups.{groups_in}
use Rattle.table_source_frames.specs.StepGroups.{no_numbers, steps_bytes}
use Rattle.table_source_frames_build.specs.KeptViews.{kept_view}
use Rattle.table_source_frames_build.specs.PartBytes.{step_numbers}
use Rattle.table_source_frames_build.specs.StepViews.{HaveLocations}
use Rattle.table_source_frames_build.specs.declared.step.Step.{Step}
use Rattle.table_source_frames_build.proofs.GroupLemmas.{bytes_end, group_has, group_more, group_some, groups_end}
use Rattle.table_source_frames_build.proofs.kept.Kept.step_rows.Goals as goal

pub bounds-group-0 : goal.bounds-group-0
bounds-group-0 c =
    let inside : 128 * c.groups.index < length c.args.steps.now = omega (arith, c.groups-test.true, c.groups_in-index-end.ensures) in
    omega (arith, group_some c.args.steps.now c.groups.index inside, ap length c.group_at-group.ensures)

pub push_group-requires-clause-steps : goal.push_group-requires-clause-steps
push_group-requires-clause-steps c =
    subst (λ (l : List Step). HaveLocations (kept_view c.args.self.now) l) (sym c.group_at-group.ensures)
    (group_has (kept_view c.args.self.now) c.args.steps.now c.groups.index c.requires.steps)

pub groups-preserved : goal.groups-preserved
groups-preserved c =
    let numbers = step_numbers (kept_view c.args.self.now) c.args.parts.now.scopes.order.items in
    let less : c.groups.index < groups_in (length c.args.steps.now) = omega (arith, c.groups-test.true, c.groups_in-index-end.ensures) in
    let inside : 128 * c.groups.index < length c.args.steps.now = omega (arith, less) in
    let long : c.len.result ≡ length c.groups.bytes.items = omega (arith, c.len.ensures, c.groups.bytes.ok.0) in
    let other : Step = record { start = 0; location = 0 } in
    let both = group_more numbers c.args.steps.now c.groups.index (get_or c.group_at-group.result.now 0 other).start c.len.result other
    c.groups.groups.items c.push_u64.new.text.items c.push_u64-in-groups.new.text.items c.groups.bytes.items c.push_group.new.bytes.items less
    (ap (λ (l : List Step). (get_or l 0 other).start) c.group_at-group.ensures) (group_some c.args.steps.now c.groups.index inside) long
    c.in_ok-push_u64.ensures c.in_ok-push_u64-2.ensures
    (c.in_ok-push_group.ensures ∙ ap (λ (l : List Step). c.groups.bytes.items ++ steps_bytes no_numbers (map numbers l)) c.group_at-group.ensures)
    _ _ c.groups.invariant.groups c.groups.invariant.bytes in
    record { groups = both.0; bytes = both.1 }

pub returns-clause-groups : goal.returns-clause-groups
returns-clause-groups c =
    groups_end (step_numbers (kept_view c.args.self.now) c.args.parts.now.scopes.order.items) c.args.steps.now c.groups.index
    (length c.groups.bytes.items) c.groups.groups.items _ (omega (arith, c.groups-test.false, c.groups_in-index-end.ensures)) c.groups.invariant.groups

pub returns-clause-bytes : goal.returns-clause-bytes
returns-clause-bytes c =
    bytes_end (step_numbers (kept_view c.args.self.now) c.args.parts.now.scopes.order.items) c.args.steps.now c.groups.index
    c.groups.bytes.items _ (omega (arith, c.groups-test.false, c.groups_in-index-end.ensures)) c.groups.invariant.bytes
