use Rattle.std.proofs.{Common.refl, Common.rules, lemmas.Result.err_from_is_err_and}
use Rattle.byte_device.proofs.Known.{Appends-none}
use Rattle.command_common.specs.Outputs.{outs, writer}
use Rattle.cli_run.proofs.Dispatched.{none_there, not_none, some_read}
use Rattle.cli_run.proofs.Extracted.{alone_stopped, paired_extracted, whole_extracted}
use Rattle.cli_run.proofs.updates.extract.Goals as goal

pub returns-then-is_empty : goal.returns-then-is_empty
returns-then-is_empty g c =
    let new = c.run_extract.new in
    let out = outs g.T.Draft.Sink.held g.T.Draft.Sink.failures g.T.Target.published g.T.Target.failures c.args.out.now new.out in
    let ends = whole_extracted g.S.Source.left g.S.Placed.whole g.S.Source.failures g.S.Placed.failures c.args.key.now
    c.args.digest.now c.args.archives.now new.evidence.archives.now c.args.indexes.now out
    (writer g.P.Sink.held g.P.Sink.failures c.args.report.now new.report) c.run_extract.result c.requires
    c.run_extract.ensures.keeps.1 (none_there c.args.indexes.now c.if-is_empty.ensures) c.run_extract.ensures.ends in
    search rules

pub returns-in_err-check_pairs : goal.returns-in_err-check_pairs
returns-in_err-check_pairs g c =
    let some = some_read g.S.Placed.whole g.S.Placed.failures c.args.indexes.now c.args.indexes.now refl
    (not_none c.args.indexes.now c.if-is_empty.ensures) in
    let refused = err_from_is_err_and c.from_residual.result c.from_residual.ensures.1 in
    rw (refused.1, refused.2) (alone_stopped g.S.Source.left g.S.Placed.whole g.S.Source.failures g.S.Placed.failures
    c.args.key.now c.args.digest.now c.args.archives.now c.args.indexes.now _ _ _ c.in_err-check_pairs.ensures.other some
    refl (Appends-none _, refl))

pub returns : goal.returns
returns g c =
    let new = c.run_extract-2.new in
    let kept = c.run_extract-2.ensures.keeps in
    let out = outs g.T.Draft.Sink.held g.T.Draft.Sink.failures g.T.Target.published g.T.Target.failures c.args.out.now new.out in
    let some = some_read g.S.Placed.whole g.S.Placed.failures c.args.indexes.now new.evidence.indexes.now
    kept.2 (not_none c.args.indexes.now c.if-is_empty.ensures) in
    let ends = paired_extracted g.S.Source.left g.S.Placed.whole g.S.Source.failures g.S.Placed.failures c.args.key.now
    c.args.digest.now c.args.archives.now new.evidence.archives.now c.args.indexes.now new.evidence.indexes.now out
    (writer g.P.Sink.held g.P.Sink.failures c.args.report.now new.report) c.run_extract-2.result
    c.in_ok-check_pairs.ensures.same kept.3 kept.2 some c.run_extract-2.ensures.ends in
    search rules
