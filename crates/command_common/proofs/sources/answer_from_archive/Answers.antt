use Rattle.command_common.proofs.Given.{holds_content}
use Rattle.command_common.proofs.sources.answer_from_archive.Goals as goal

pub returns-in-Ok : goal.returns-in-Ok
returns-in-Ok g c = holds_content g.R.Source.left g.R.Source.failures c.args.input.now _ _ c.in-Ok.ensures
