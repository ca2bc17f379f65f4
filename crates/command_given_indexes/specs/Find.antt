-- The report of `find` over archives, by their indexes.
use Rattle.std.specs.Prelude.{ℕ, List}
use Rattle.text_reports.specs.Finds.{find_lines}
use Rattle.command_common.specs.Asked.{prints_rows}
use Rattle.command_common.specs.Ends.{Query}
use Rattle.command_common.specs.Inputs.{Reader}
use Rattle.command_given_indexes.specs.Answered.{rows_at, rows_by, rows_joined}

-- `find`, over this archive by this index
abbrev pub find_at : {R S : Type 0} → Reader R → Reader S → List ℕ → Query
find_at index archive uuid = prints_rows find_lines (rows_at index archive uuid)

-- `find`, over several archives
abbrev pub find_together : {I P : Type 0} → List (Reader I) → List (Reader P) → List ℕ → Query
find_together indexes archives uuid = prints_rows find_lines (rows_joined indexes archives uuid)

-- `find`, over archives with one index each
abbrev pub find_by : {I P : Type 0} → List (Reader I) → List (Reader P) → List ℕ → Query
find_by indexes archives uuid = prints_rows find_lines (rows_by indexes archives uuid)
