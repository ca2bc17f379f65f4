use Rattle.std.proofs.Common.{map}
use Rattle.std.proofs.lemmas.Result.{IfOk-weaker}
use Rattle.index_format.specs.Entry.{entry_bytes}
use Rattle.index_format.specs.Runs.{is_tagged}
use Rattle.command_given_indexes.proofs.RowsAmong.{rows_of_run, run_is}
use Rattle.command_given_indexes.proofs.rows.rows_tagged.Goals as goal

pub returns : goal.returns
returns c =
    let run = c.run_under in
    let entries = run.result.1.now in
    let passes = is_tagged c.args.tag c.args.prefix.now in
    IfOk-weaker c.rows_of.result _ _
    (λ rows each. rows_of_run entries c.args.index.now passes
    (run_is passes c.args.index.now run.result.0.now (map entry_bytes entries) run.ensures.run) run.ensures.fields rows.items each)
    c.rows_of.ensures
