use Rattle.std.proofs.{Common.refl, Common.rules, lemmas.Result.err_from_is_err_and}
use Rattle.command_common.specs.{Ends.EndsReport, Inputs.reader, Inputs.readers, Outputs.writer}
use Rattle.command_frames.specs.Frames.{frames_at}
use Rattle.cli_run.specs.Queries.{frames_of}
use Rattle.cli_run.proofs.Dispatched.{alone_refused, frames_by, not_none, paired_kept, some_read}
use Rattle.cli_run.proofs.queries.frames.Goals as goal

pub returns-in_err-check_pairs : goal.returns-in_err-check_pairs
returns-in_err-check_pairs g c =
    let whole = g.S.Placed.whole in
    let failures = g.S.Placed.failures in
    let some = some_read whole failures c.args.indexes.now c.args.indexes.now refl
    (not_none c.args.indexes.now c.if-is_empty.ensures) in
    let refused = err_from_is_err_and c.from_residual.result c.from_residual.ensures.1 in
    rw (refused.1, refused.2) (alone_refused g.S.Source.left whole g.S.Source.failures failures g.P.Sink.held
    g.P.Sink.failures c.args.archives.now c.args.indexes.now _ _ _ _ c.in_err-check_pairs.ensures.other (frames_by _ _ _ _ _ _ some))

pub returns : goal.returns
returns g c =
    let whole = g.S.Placed.whole in
    let failures = g.S.Placed.failures in
    let kept = c.run_frames-2.ensures.keeps in
    let after = c.run_frames-2.new.evidence in
    let crash = reader g.S.Source.left g.S.Source.failures c.args.crash.now c.run_frames-2.new.crash in
    let archives = readers g.S.Source.left g.S.Source.failures c.args.archives.now after.archives.now in
    let places = readers whole failures c.args.archives.now after.archives.now in
    let indexes = readers whole failures c.args.indexes.now after.indexes.now in
    let report = writer g.P.Sink.held g.P.Sink.failures c.args.report.now c.run_frames-2.new.report in
    let ends : EndsReport (frames_of c.args.lines c.args.slices crash archives places indexes) report c.run_frames-2.result =
    paired_kept g.S.Source.left whole g.S.Source.failures failures c.args.archives.now after.archives.now
    c.args.indexes.now after.indexes.now (frames_of c.args.lines c.args.slices crash archives places indexes)
    (frames_at c.args.lines c.args.slices crash indexes places) report c.run_frames-2.result
    c.in_ok-check_pairs.ensures.same kept.3 kept.2
    (frames_by c.args.lines c.args.slices crash archives places indexes (some_read whole failures c.args.indexes.now
    after.indexes.now kept.2 (not_none c.args.indexes.now c.if-is_empty.ensures))) c.run_frames-2.ensures.ends in
    search rules
