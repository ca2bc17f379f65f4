use Rattle.std.proofs.lemmas.Result.{err_from_is_err_and}
use Rattle.archive_merge.specs.Sides.{sides_of}
use Rattle.archive_merge.proofs.MergeSteps.{full_stops, passed, write_stops, wrote}
use Rattle.archive_merge.proofs.ArrivalTurns.{tells_passed, tells_wrote}
use Rattle.archive_merge.proofs.merging.take_turn.Goals as goal

pub returns-then-is_covered-clause-merging : goal.returns-then-is_covered-clause-merging
returns-then-is_covered-clause-merging g c = λ b1 b2 a1 a2 w0 p.
    rw (rw c.is_covered.ensures.same at c.pass_over.ensures)
    (passed _ _ _ _ _ _ (sides_of g.B.Side.seen c.args.m.now) p c.requires.before c.if-is_covered.ensures.covered)

pub returns-then-is_covered-clause-telling : goal.returns-then-is_covered-clause-telling
returns-then-is_covered-clause-telling g c = λ a1 b1 a2 b2 w0 told withdraws arrival t tells.
    rw (rw c.is_covered.ensures.same at c.pass_over.ensures)
    (tells_passed _ _ _ _ _ _ (sides_of g.B.Side.seen c.args.m.now) told withdraws arrival t tells c.requires.before
    c.if-is_covered.ensures.covered)

pub returns-in_err-test_number-clause-merging : goal.returns-in_err-test_number-clause-merging
returns-in_err-test_number-clause-merging g c = λ b1 b2 a1 a2 w0 p.
    let e = err_from_is_err_and c.from_residual.result c.from_residual.ensures.1 in
    rw (e.1, e.2) (full_stops _ _ _ _ _ _ (sides_of g.B.Side.seen c.args.m.now) p c.requires.before
    c.if-is_covered.ensures.covered _ (rw c.is_covered.ensures.same at c.in_err-test_number.ensures.refused))

pub returns-in-Err-clause-merging : goal.returns-in-Err-clause-merging
returns-in-Err-clause-merging g c = λ b1 b2 a1 a2 w0 p.
    let put = rw c.is_covered.ensures.same at c.in-Err.ensures.puts in
    write_stops _ _ _ _ _ _ (sides_of g.B.Side.seen c.args.m.now) p c.requires.before c.if-is_covered.ensures.covered _
    c.in-Err.fault.written put.some put.written_is put.first

pub returns-clause-merging : goal.returns-clause-merging
returns-clause-merging g c = λ b1 b2 a1 a2 w0 p.
    let put = rw c.is_covered.ensures.same at c.in_default.ensures.puts in
    let more = rw c.is_covered.ensures.same at c.in_default.ensures.more in
    let is = rw c.is_covered.ensures.same at c.in_default.ensures.turned in
    rw is (wrote _ _ _ _ _ _ (sides_of g.B.Side.seen c.args.m.now) p c.requires.before c.if-is_covered.ensures.covered _
    c.write_first.new.m.written more.records put.size_is put.gained)

pub returns-clause-telling : goal.returns-clause-telling
returns-clause-telling g c = λ a1 b1 a2 b2 w0 told withdraws arrival t tells.
    let put = rw c.is_covered.ensures.same at c.in_default.ensures.puts in
    let more = rw c.is_covered.ensures.same at c.in_default.ensures.more in
    let is = rw c.is_covered.ensures.same at c.in_default.ensures.turned in
    rw is (tells_wrote _ _ _ _ _ _ (sides_of g.B.Side.seen c.args.m.now) told withdraws arrival t tells
    c.requires.before c.if-is_covered.ensures.covered _ c.write_first.new.m.written more.records put.size_is
    put.gained)
