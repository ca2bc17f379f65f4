use Rattle.std.proofs.Common.{rules}
use Rattle.command_common.specs.Outputs.{writer}
use Rattle.cli_run.proofs.Dispatched.{none_there, not_none}
use Rattle.cli_run.proofs.Listed.{listed_by_indexes, listed_by_records}
use Rattle.cli_run.proofs.queries.list.Goals as goal

pub returns-then-is_empty : goal.returns-then-is_empty
returns-then-is_empty g c =
    let ends = listed_by_records g.S.Source.left g.S.Placed.whole g.S.Source.failures g.S.Placed.failures
    (writer g.P.Sink.held g.P.Sink.failures c.args.report.now c.run_list.new.report) c.run_list.result
    c.args.archives.now c.run_list.new.evidence.archives.now c.args.indexes.now c.requires c.run_list.ensures.keeps.1
    (none_there c.args.indexes.now c.if-is_empty.ensures) c.run_list.ensures.ends in
    search rules

pub returns : goal.returns
returns g c =
    let kept = c.run_list-2.ensures.keeps in
    let after = c.run_list-2.new.evidence in
    let ends = listed_by_indexes g.S.Source.left g.S.Placed.whole g.S.Source.failures g.S.Placed.failures
    (writer g.P.Sink.held g.P.Sink.failures c.args.report.now c.run_list-2.new.report) c.run_list-2.result
    c.args.archives.now after.archives.now c.args.indexes.now after.indexes.now c.requires kept.3
    (not_none c.args.indexes.now c.if-is_empty.ensures) kept.2 c.run_list-2.ensures.ends in
    search rules
