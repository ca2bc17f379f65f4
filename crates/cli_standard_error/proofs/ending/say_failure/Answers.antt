use Rattle.cli_arguments.specs.LineView.{line_view}
use Rattle.command_common.specs.Outputs.{writer}
use Rattle.cli_standard_error.proofs.SecondLines.{without_help}
use Rattle.cli_standard_error.proofs.ending.say_failure.Goals as goal

pub returns-in_default : goal.returns-in_default
returns-in_default g c = without_help (writer g.E.Sink.held g.E.Sink.failures c.args.errors.now c.say.new.errors)
    (line_view c.args.line.now) c.args.failure c.if-not-say.ensures
