use Rattle.std.proofs.Common.{List, ℕ, [], ◌∷◌, subst}
use Rattle.std.specs.List.Sorted.{IsStrictlySortedBy}
use Rattle.command_common.specs.Inputs.{reader}
use Rattle.command_given_indexes.specs.Together.{IsReadWith}
use Rattle.command_given_indexes.proofs.indexes.rows_at.Goals as goal

pub read_matching_part-requires : goal.read_matching_part-requires
unfolding IsStrictlySortedBy
read_matching_part-requires g c = (tt, tt)

pub returns : goal.returns
returns g c =
    let named = reader g.I.Placed.whole g.I.Placed.failures c.args.index.now c.read_matching_part.new.index in
    let known = reader g.P.Placed.whole g.P.Placed.failures c.args.archive.now c.read_matching_part.new.archive in
    let all = c.in_ok-part.part in
    let read = c.in_ok-part.ensures.read in
    record {
      is = record {
        all = all;
        read = subst (λ (uuid : List ℕ). IsReadWith (uuid ∷ []) named known all) c.uuid_bytes.ensures.bytes read.is;
        rows_are = c.in_ok-rows_under.ensures;
      };
      unfailed = read.unfailed;
    }
