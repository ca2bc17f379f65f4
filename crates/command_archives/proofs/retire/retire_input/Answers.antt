use Rattle.std.proofs.Common.{ap, arith, length, map, ◌∙◌}
use Rattle.std.specs.List.Sorted.{IsStrictlySortedBy}
use Rattle.archive_records.proofs.Blamed.{failed}
use Rattle.archive_merge.specs.Arrivals.{is_new, arrival_of}
use Rattle.command_archives.proofs.Joined.{listed_alone, retire_stops, retire_unfinished, retired}
use Rattle.command_archives.proofs.retire.retire_input.Goals as goal

pub merge_operations-requires-clause-ascending : goal.merge_operations-requires-clause-ascending
unfolding IsStrictlySortedBy
merge_operations-requires-clause-ascending g c = (tt, tt)

pub returns-in_err-sizes : goal.returns-in_err-sizes
returns-in_err-sizes g c =
    rw (failed c.from_residual.result _ c.from_residual.ensures.1) (
      c.in_err-sizes.ensures.0,
      retire_stops _ _ _ _ _ (rw c.retirement.ensures.is at c.in_err-sizes.ensures.1),
      retire_unfinished _ _ _ _ (rw c.retirement.ensures.is at c.in_err-sizes.ensures.2),
    )

pub index-requires : goal.index-requires
index-requires g c =
    let j = rw c.retirement.ensures.is at c.in_ok-sizes.ensures in
    let one = ap length (j.arrivals_are ∙ ap (map (arrival_of j.joined.content)) (listed_alone c.args.key.now c.args.digest.now)) in
    omega (arith, one, c.in_ok-sizes.told.arrivals.ok.0)

pub returns : goal.returns
returns g c =
    retired c.args.key.now c.args.digest.now _ _ _ _ _ _ (rw c.retirement.ensures.is at c.in_ok-sizes.ensures)
    (λ x e. c.is_new.ensures ∙ ap is_new (rw e at c.index.ensures))
