use Rattle.std.proofs.Common.{ap, ◌∙◌}
use Rattle.std.specs.Ordering.{nat_cmp}
use Rattle.std.specs.Cmp.Lexicographic.{slice_cmp}
use Rattle.archive_records.proofs.Puts.{head_and_slice}
use Rattle.archive_merge.proofs.borrowed.compare_record.Goals as goal

pub returns-in-Admit : goal.returns-in-Admit
returns-in-Admit c =
    let is = head_and_slice c.admission_head.result c.bytes.result.now c.in-Admit.slice c.admission_head.ensures.head c.bytes.ensures.bytes in
    rw c.in-Admit.is (c.compare_parts.ensures ∙ ap (slice_cmp nat_cmp c.args.item.now) is)
