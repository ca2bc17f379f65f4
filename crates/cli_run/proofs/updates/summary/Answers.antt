use Rattle.std.proofs.Common.{rules}
use Rattle.command_common.specs.Outputs.{outs, writer}
use Rattle.cli_run.proofs.Dispatched.{none_there, not_none}
use Rattle.cli_run.proofs.Listed.{summarized_by_indexes, summarized_by_records}
use Rattle.cli_run.proofs.updates.summary.Goals as goal

pub returns-then-is_empty : goal.returns-then-is_empty
returns-then-is_empty g c =
    let new = c.run_summary.new in
    let out = outs g.T.Draft.Sink.held g.T.Draft.Sink.failures g.T.Target.published g.T.Target.failures c.args.out.now new.out in
    let ends = summarized_by_records g.S.Source.left g.S.Placed.whole g.S.Source.failures g.S.Placed.failures
    (writer g.P.Sink.held g.P.Sink.failures c.args.report.now new.report) c.run_summary.result out c.args.archives.now
    new.evidence.archives.now c.args.indexes.now c.requires c.run_summary.ensures.keeps.1
    (none_there c.args.indexes.now c.if-is_empty.ensures) c.run_summary.ensures.ends in
    search rules

pub returns : goal.returns
returns g c =
    let new = c.run_summary-2.new in
    let kept = c.run_summary-2.ensures.keeps in
    let out = outs g.T.Draft.Sink.held g.T.Draft.Sink.failures g.T.Target.published g.T.Target.failures c.args.out.now new.out in
    let ends = summarized_by_indexes g.S.Source.left g.S.Placed.whole g.S.Source.failures g.S.Placed.failures
    (writer g.P.Sink.held g.P.Sink.failures c.args.report.now new.report) c.run_summary-2.result out c.args.archives.now
    new.evidence.archives.now c.args.indexes.now new.evidence.indexes.now c.requires kept.3
    (not_none c.args.indexes.now c.if-is_empty.ensures) kept.2 c.run_summary-2.ensures.ends in
    search rules
