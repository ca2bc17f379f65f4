use Rattle.std.proofs.Common.{sym}
use Rattle.command_archives.proofs.Joined.{empty_written}
use Rattle.command_archives.proofs.migrate.empty_text.Goals as goal

pub returns : goal.returns
returns c = sym empty_written
