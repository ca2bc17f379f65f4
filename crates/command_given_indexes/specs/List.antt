-- The report of `list` by an index alone.
use Rattle.text_reports.specs.Finds.{list_lines}
use Rattle.command_common.specs.Asked.{prints_rows}
use Rattle.command_common.specs.Ends.{Query}
use Rattle.command_common.specs.Inputs.{Reader}
use Rattle.command_given_indexes.specs.Answered.{rows_listed}

-- `list`, over this archive by this index
abbrev pub list_at : {R S : Type 0} → Reader R → Reader S → Query
list_at index archive = prints_rows list_lines (rows_listed index archive)
