use Rattle.std.proofs.Common.{List, ℕ, ◌++◌, ◌∙◌, arith, map, subst}
use Rattle.std.proofs.lemmas.Result.{IfOk-weaker}
use Rattle.index_format.specs.Entry.{entry_bytes}
use Rattle.index_format.specs.Runs.{is_tagged}
use Rattle.index_format.specs.Spread.{AreNumbered}
use Rattle.command_given_indexes.proofs.UnderRows.{rows_of_both}
use Rattle.command_given_indexes.proofs.rows.rows_under.Goals as goal

pub returns : goal.returns
returns c =
    let es = c.args.index.now in
    let same = c.uuid_bytes-prefix.ensures.bytes in
    let long = c.uuid_bytes-prefix.ensures.long in
    let first = c.run_under.result.1.now in
    let second = c.run_under-2.result.1.now in
    let one = subst (λ (prefix : List ℕ). AreNumbered (is_tagged 1 prefix) es c.run_under.result.0.now (map entry_bytes first)) same
    c.run_under.ensures.run in
    let two = subst (λ (prefix : List ℕ). AreNumbered (is_tagged 2 prefix) es c.run_under-2.result.0.now (map entry_bytes second)) same
    c.run_under-2.ensures.run in
    let begun = c.in_ok-extend_from_slice.ensures.items ∙ (λ i. c.new-placed.ensures.items i ++ first) in
    IfOk-weaker c.sorted_rows.result _ _
    (λ rows are. rows_of_both c.args.uuid (omega (arith, long)) (omega (arith, long)) es c.run_under.result.0.now
    c.run_under-2.result.0.now first second c.extend_from_slice-2.new.self.items rows.items c.len-count.ensures.tags
    c.run_under.ensures.fields c.run_under-2.ensures.fields one two
    (c.in_ok-extend_from_slice-2.ensures.items ∙ (λ i. begun i ++ second)) are) c.sorted_rows.ensures
