use Rattle.std.proofs.Common.{List, ℕ, [], ◌++◌, ◌∙◌, ap, map, subst}
use Rattle.std.specs.Prelude.{IfOk}
use Rattle.index_format.specs.Entry.{placed_bytes}
use Rattle.command_given_indexes.specs.Rows.{AreIndexRows}
use Rattle.command_given_indexes.proofs.rows.rows_listed.Goals as goal

pub returns : goal.returns
returns c =
    let entries = c.entries.result.now in
    let all = c.in_ok-extend_from_slice.ensures.items ∙ (λ i. c.new-placed.ensures.items i ++ entries) in
    subst (λ (es : List (List ℕ)). IfOk c.sorted_rows.result (λ rows. AreIndexRows [] es rows.items))
    (ap (map placed_bytes) all ∙ c.entries.ensures.placed) c.sorted_rows.ensures
