use Rattle.std.proofs.Common.{map}
use Rattle.command_given_indexes.specs.Prefixes.{prefix_bytes}
use Rattle.command_given_indexes.proofs.Joined.{named_in, told_place, told_refused}
use Rattle.command_given_indexes.proofs.parts.join_archive.Goals as goal

pub returns-in-Ok-clause-read : goal.returns-in-Ok-clause-read
returns-in-Ok-clause-read g c =
    let j = c.in-Ok.ensures in
    record {
      is = named_in g.P.Placed.whole g.P.Placed.failures c.args.archive.now _ (map prefix_bytes c.args.prefixes.now)
          c.args.tables.now c.args.size _ _ j.0.1;
      unfailed = j.2;
    }

pub returns-in-Err-clause-read : goal.returns-in-Err-clause-read
returns-in-Err-clause-read g c =
    rw c.told.ensures
    (told_refused g.P.Placed.whole g.P.Placed.failures c.args.archive.now _ (map prefix_bytes c.args.prefixes.now)
    c.args.tables.now c.args.size _ _ _ _ c.in-Err.ensures.0 c.in-Err.ensures.2)

pub returns-in-Err-clause-place : goal.returns-in-Err-clause-place
returns-in-Err-clause-place g c =
    rw c.told.ensures
    (told_place g.P.Placed.failures c.args.archive.now _ _ c.args.number c.in-Err.fault c.in-Err.ensures.2)

pub returns-in-Ok-clause-length : goal.returns-in-Ok-clause-length
returns-in-Ok-clause-length g c = c.in-Ok.ensures.0.0

pub returns-in-Ok-clause-kept : goal.returns-in-Ok-clause-kept
returns-in-Ok-clause-kept g c = c.in-Ok.ensures.1

pub returns-in-Err-clause-kept : goal.returns-in-Err-clause-kept
returns-in-Err-clause-kept g c = c.in-Err.ensures.1
