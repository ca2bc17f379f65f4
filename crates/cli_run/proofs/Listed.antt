-- `list` and `summary` over the first archive, as a plan asks them.
use Rattle.std.proofs.Common.{◌≡◌, ℕ, ◌<◌, List, [], ◌∷◌, length, Option, Result, arith}
use Rattle.text_reports.specs.Finds.{list_lines}
use Rattle.command_common.specs.{Asked.prints_rows, Asked.writes_summary, Ends.Ends, Ends.EndsReport, Inputs.readers}
use Rattle.command_common.specs.{Outputs.Outs, Outputs.Writer, Outputs.out_of, Records.rows_listed, Records.summary_held}
use Rattle.command_common.specs.Asked as asked
use Rattle.command_common.specs.declared.faults.{CommandFault.CommandFault, Status.Status}
use Rattle.command_given_indexes.specs.Answered.{of_first_pair, rows_listed as rows_by_index, summary_told}
use Rattle.cli_run.specs.Plans.{EndsAsked, EndsDeed, listed_of, summarized_of}

module _ {S : Type 0} (left whole : S → Option (List ℕ)) (failures place_failures : S → ℕ) (report : Writer) (result : Result Status CommandFault) where
  pub listed_by_records : (archives now indexes : List S) → 0 < length archives → length now ≡ length archives → indexes ≡ []
      → EndsReport (prints_rows list_lines (asked.of_first (λ archive _. rows_listed archive) (readers left failures archives now))) report result
      → EndsAsked (listed_of (readers left failures archives now) (readers whole place_failures archives now)
      (readers whole place_failures indexes indexes)) report result
  listed_by_records [] now indexes some same none ends = absurd (omega arith)
  listed_by_records (a ∷ archives) [] indexes some same none ends = absurd (omega (arith, same))
  listed_by_records (a ∷ archives) (b ∷ now) [] some same none ends = ends
  listed_by_records (a ∷ archives) (b ∷ now) (i ∷ indexes) some same none ends = cc none

  pub listed_by_indexes : (archives now indexes after : List S) → 0 < length archives → length now ≡ length archives
      → 0 < length indexes → length after ≡ length indexes
      → EndsReport (prints_rows list_lines (of_first_pair (λ index archive. rows_by_index index archive)
      (readers whole place_failures indexes after) (readers whole place_failures archives now))) report result
      → EndsAsked (listed_of (readers left failures archives now) (readers whole place_failures archives now)
      (readers whole place_failures indexes after)) report result
  listed_by_indexes [] now indexes after some same any long ends = absurd (omega arith)
  listed_by_indexes archives now [] after some same any long ends = absurd (omega arith)
  listed_by_indexes (a ∷ archives) [] indexes after some same any long ends = absurd (omega (arith, same))
  listed_by_indexes archives now (i ∷ indexes) [] some same any long ends = absurd (omega (arith, long))
  listed_by_indexes (a ∷ archives) (b ∷ now) (i ∷ indexes) (j ∷ after) some same any long ends = ends

  module _ {D T : Type 0} (out : Outs D T) where
    pub summarized_by_records : (archives now indexes : List S) → 0 < length archives → length now ≡ length archives → indexes ≡ []
        → Ends (writes_summary (asked.of_first (λ archive _. summary_held archive) (readers left failures archives now))) (out_of out) report result
        → EndsDeed (summarized_of (readers left failures archives now) (readers whole place_failures archives now)
        (readers whole place_failures indexes indexes)) out report result
    summarized_by_records [] now indexes some same none ends = absurd (omega arith)
    summarized_by_records (a ∷ archives) [] indexes some same none ends = absurd (omega (arith, same))
    summarized_by_records (a ∷ archives) (b ∷ now) [] some same none ends = ends
    summarized_by_records (a ∷ archives) (b ∷ now) (i ∷ indexes) some same none ends = cc none

    pub summarized_by_indexes : (archives now indexes after : List S) → 0 < length archives → length now ≡ length archives
        → 0 < length indexes → length after ≡ length indexes
        → Ends (writes_summary (of_first_pair (λ index archive. summary_told index archive)
        (readers whole place_failures indexes after) (readers whole place_failures archives now))) (out_of out) report result
        → EndsDeed (summarized_of (readers left failures archives now) (readers whole place_failures archives now)
        (readers whole place_failures indexes after)) out report result
    summarized_by_indexes [] now indexes after some same any long ends = absurd (omega arith)
    summarized_by_indexes archives now [] after some same any long ends = absurd (omega arith)
    summarized_by_indexes (a ∷ archives) [] indexes after some same any long ends = absurd (omega (arith, same))
    summarized_by_indexes archives now (i ∷ indexes) [] some same any long ends = absurd (omega (arith, long))
    summarized_by_indexes (a ∷ archives) (b ∷ now) (i ∷ indexes) (j ∷ after) some same any long ends = ends
