use Rattle.std.proofs.Common.{map}
use Rattle.command_common.specs.Inputs.{readers}
use Rattle.command_given_indexes.specs.Prefixes.{prefix_bytes}
use Rattle.command_given_indexes.proofs.Groups.{all_held}
use Rattle.command_given_indexes.proofs.together.read_prefixes.Goals as goal

pub returns-clause-read : goal.returns-clause-read
returns-clause-read g c =
    let archives = readers g.P.Placed.whole g.P.Placed.failures c.args.archives.now c.join_archives.new.archives in
    let joined = c.in_ok-join_archives.ensures.read in
    record {
      is = all_held (map prefix_bytes c.args.prefixes.now) archives c.args.read.now _ _ c.empty-kept.ensures joined.is;
      unfailed = joined.unfailed;
    }
