use Rattle.command_common.proofs.Given.{holds_content}
use Rattle.command_common.proofs.sources.read_archive_part.Goals as goal

pub returns-in-Ok : goal.returns-in-Ok
returns-in-Ok g c =
    let read = holds_content g.R.Source.left g.R.Source.failures c.args.input.now _ _ c.in-Ok.ensures in
    record {
      is = record { whole = read.is.content; is_content = read.is.is_content; text = read.is.text; kept = read.is.is_true };
      unfailed = read.unfailed;
    }
