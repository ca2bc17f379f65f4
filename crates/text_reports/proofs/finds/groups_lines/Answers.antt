use Rattle.text_reports.proofs.Grouped.{first_written, all_written, fewer_behind}
use Rattle.text_reports.proofs.finds.groups_lines.Goals as goal

pub groups-preserved : goal.groups-preserved
groups-preserved c =
    first_written _ _ _ _ _ c.in-Some.first.now _ _ _ _ _ c.in-Some.ensures.value c.group_len.ensures.len c.split_at.ensures.front c.split_at.ensures.back
    c.answering_count.ensures c.groups.invariant c.in_ok-push_rows.ensures c.in_ok-push_conflict.ensures

pub returns : goal.returns
returns c = all_written _ _ _ _ c.in_default.ensures.value c.groups.invariant

pub groups-smaller : goal.groups-smaller
groups-smaller c = fewer_behind c.in-Some.first.now c.groups.rest.now c.split_at.result.1.now _ c.in-Some.ensures.value
    c.group_len.ensures.len c.split_at.ensures.back
