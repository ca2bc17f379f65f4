-- The report of `list` over an archive, from its records.
use Rattle.text_reports.specs.Finds.{list_lines}
use Rattle.command_common.specs.Asked.{prints_rows}
use Rattle.command_common.specs.Ends.{Query}
use Rattle.command_common.specs.Inputs.{Reader}
use Rattle.command_common.specs.Records.{rows_listed}

-- `list`, over this archive
abbrev pub list : {R : Type 0} → Reader R → Query
list archive = prints_rows list_lines (rows_listed archive)
