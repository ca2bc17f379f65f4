use Rattle.std.proofs.Common.{List, ℕ, [], ◌∷◌, subst}
use Rattle.std.specs.List.Sorted.{IsStrictlySortedBy}
use Rattle.command_common.specs.Inputs.{readers}
use Rattle.command_given_indexes.specs.Several.{HoldTogether}
use Rattle.command_given_indexes.proofs.indexes.rows_joined.Goals as goal

pub read_archives_by_indexes-requires-clause-ascending : goal.read_archives_by_indexes-requires-clause-ascending
unfolding IsStrictlySortedBy
read_archives_by_indexes-requires-clause-ascending g c = (tt, tt)

pub returns : goal.returns
returns g c =
    let named = readers g.I.Placed.whole g.I.Placed.failures c.args.indexes.now c.read_archives_by_indexes.new.indexes in
    let known = readers g.P.Placed.whole g.P.Placed.failures c.args.archives.now c.read_archives_by_indexes.new.archives in
    let content = g.A.Join.content c.in_ok-kept.kept in
    let held = subst (λ (uuid : List ℕ). HoldTogether (uuid ∷ []) (c.args.uuid.now ∷ []) named known content) c.uuid_bytes.ensures.bytes
    c.in_ok-kept.ensures.is in
    record { is = (content, held, c.in_ok-find.ensures); unfailed = c.in_ok-kept.ensures.unfailed }
