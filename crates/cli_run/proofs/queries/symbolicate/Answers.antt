use Rattle.std.proofs.{Common.refl, Common.rules, lemmas.Result.err_from_is_err_and}
use Rattle.command_common.specs.Outputs.{writer}
use Rattle.cli_run.proofs.Dispatched.{alone_refused, none_there, not_none, paired_kept, some_read, symbolicate_by, symbolicate_by_records}
use Rattle.cli_run.proofs.queries.symbolicate.Goals as goal

pub returns-then-is_empty : goal.returns-then-is_empty
returns-then-is_empty g c =
    let ends = symbolicate_by_records g.S.Source.left g.S.Placed.whole g.S.Source.failures g.S.Placed.failures
    c.args.archives.now c.run_symbolicate.new.evidence.archives.now c.args.indexes.now c.args.key.now c.args.load
    c.args.lines c.args.slices c.args.addresses.now
    (writer g.P.Sink.held g.P.Sink.failures c.args.report.now c.run_symbolicate.new.report) c.run_symbolicate.result
    c.requires c.run_symbolicate.ensures.keeps.1 (none_there c.args.indexes.now c.if-is_empty.ensures)
    c.run_symbolicate.ensures.ends in
    search rules

pub returns-in_err-check_pairs : goal.returns-in_err-check_pairs
returns-in_err-check_pairs g c =
    let whole = g.S.Placed.whole in
    let failures = g.S.Placed.failures in
    let some = some_read whole failures c.args.indexes.now c.args.indexes.now refl
    (not_none c.args.indexes.now c.if-is_empty.ensures) in
    let refused = err_from_is_err_and c.from_residual.result c.from_residual.ensures.1 in
    rw (refused.1, refused.2) (alone_refused g.S.Source.left whole g.S.Source.failures failures g.P.Sink.held
    g.P.Sink.failures c.args.archives.now c.args.indexes.now _ _ _ _ c.in_err-check_pairs.ensures.other
    (symbolicate_by _ _ _ c.args.key.now c.args.load c.args.lines c.args.slices c.args.addresses.now some))

pub returns : goal.returns
returns g c =
    let whole = g.S.Placed.whole in
    let failures = g.S.Placed.failures in
    let kept = c.run_symbolicate-2.ensures.keeps in
    let after = c.run_symbolicate-2.new.evidence in
    let ends = paired_kept g.S.Source.left whole g.S.Source.failures failures c.args.archives.now after.archives.now
    c.args.indexes.now after.indexes.now _ _ _ _ c.in_ok-check_pairs.ensures.same kept.3 kept.2
    (symbolicate_by _ _ _ c.args.key.now c.args.load c.args.lines c.args.slices c.args.addresses.now
    (some_read whole failures c.args.indexes.now after.indexes.now kept.2
    (not_none c.args.indexes.now c.if-is_empty.ensures))) c.run_symbolicate-2.ensures.ends in
    search rules
