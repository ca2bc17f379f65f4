use Rattle.std.proofs.Common.{◌∙◌}
use Rattle.archive_merge.proofs.arrival_merge.merge_records_with_arrivals.Goals as goal

pub turns-preserved : goal.turns-preserved
turns-preserved g c =
    let before = c.turns.invariant in
    let turn = c.in_ok-merge_next_record.ensures in
    record {
      telling = λ a1 a2 w0 t. turn.telling a1 a2 w0 (before.telling a1 a2 w0 t);
      fits = turn.read.fits;
      read = turn.read.read;
      unfailed1 = turn.devices.0 ∙ before.unfailed1;
      unfailed2 = turn.devices.1 ∙ before.unfailed2;
      unfailed = turn.devices.2 ∙ before.unfailed;
    }

pub returns-clause-telling : goal.returns-clause-telling
returns-clause-telling g c = λ a1 a2 w0 t. c.turns.invariant.telling a1 a2 w0 (c.in_ok-push_arrival_and_read_on.ensures.telling _ a1 a2 w0 t)
