use Rattle.command_common.proofs.Given.{holds_content}
use Rattle.command_common.proofs.sources.check_archive_input.Goals as goal

pub returns-in-Ok : goal.returns-in-Ok
returns-in-Ok g c =
    let read = holds_content g.R.Source.left g.R.Source.failures c.args.input.now _ _ c.in-Ok.ensures in
    record { is = (read.is.content, read.is.is_content, read.is.text); unfailed = read.unfailed }
