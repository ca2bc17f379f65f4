-- The report of `find` over archives, from their records.
use Rattle.std.specs.Prelude.{ℕ, List}
use Rattle.text_reports.specs.Finds.{find_lines}
use Rattle.command_common.specs.Asked.{prints_rows}
use Rattle.command_common.specs.Ends.{Query}
use Rattle.command_common.specs.Inputs.{Reader}
use Rattle.command_common.specs.Records.{rows_found}

-- `find`, over these archives
abbrev pub find : {R S : Type 0} → Reader R → List (Reader S) → List ℕ → Query
find archive others uuid = prints_rows find_lines (rows_found archive others uuid)
