-- The summary that `summary` makes from the records of an archive.
use Rattle.command_common.specs.Asked.{writes_summary}
use Rattle.command_common.specs.Ends.{Command}
use Rattle.command_common.specs.Inputs.{Reader}
use Rattle.command_common.specs.Records.{summary_held}

-- `summary`, over this archive
abbrev pub summary : {R : Type 0} → Reader R → Command
summary archive = writes_summary (summary_held archive)
