use Rattle.command_common.specs.Outputs.{writer}
use Rattle.cli_standard_error.proofs.Saying.{said_of, wanting_said}
use Rattle.cli_standard_error.proofs.standard_error.say.Goals as goal

pub returns-in-Ok : goal.returns-in-Ok
returns-in-Ok g c =
    said_of _ (writer g.E.Sink.held g.E.Sink.failures c.args.errors.now c.push_whole.new.errors) _ c.as_bytes.result.now
    c.push_whole.result c.in-Ok.ensures c.as_bytes.ensures.value c.push_whole.ensures

pub returns-in-Err : goal.returns-in-Err
returns-in-Err g c =
    wanting_said _ (writer g.E.Sink.held g.E.Sink.failures c.args.errors.now c.print_out_of_memory.new.errors) c.print_out_of_memory.result
    c.print_out_of_memory.ensures
