-- The summary that is made from an index alone.
use Rattle.command_common.specs.Asked.{writes_summary}
use Rattle.command_common.specs.Ends.{Command}
use Rattle.command_common.specs.Inputs.{Reader}
use Rattle.command_given_indexes.specs.Answered.{summary_told}

-- `summary`, over this archive by this index
abbrev pub summary_at : {R S : Type 0} → Reader R → Reader S → Command
summary_at index archive = writes_summary (summary_told index archive)
