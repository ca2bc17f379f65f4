use Rattle.std.proofs.Common.{List, ℕ, subst, arith}
use Rattle.index_format.specs.Runs.{is_tagged}
use Rattle.command_given_indexes.specs.Rows.{AreRowsAmong}
use Rattle.command_given_indexes.proofs.RowsAmong.{rows_of_tags}
use Rattle.command_given_indexes.proofs.rows.rows_with_uuid.Goals as goal

pub returns : goal.returns
returns c =
    let es = c.args.index.now in
    let same = c.uuid_bytes-prefix.ensures.bytes in
    let rows = c.in_ok-rows.rows.items in
    let more = c.in_ok-admitted.admitted.items in
    let first = subst (λ (prefix : List ℕ). AreRowsAmong (is_tagged 1 prefix) es rows) same c.in_ok-rows.ensures in
    let second = subst (λ (prefix : List ℕ). AreRowsAmong (is_tagged 2 prefix) es more) same c.in_ok-admitted.ensures in
    rw c.in_ok-append.ensures.items (rows_of_tags c.args.uuid es rows more (omega (arith, c.uuid_bytes-prefix.ensures.long))
    c.len-count.ensures.tags first second)
