use Rattle.std.proofs.lemmas.Result.{err_from_is_err_and}
use Rattle.cli_files.proofs.Comparisons.{before_comparison, compared_at, uncompared_at}
use Rattle.cli_files.proofs.losses.lost_at.Goals as goal

pub returns-clause-compared : goal.returns-clause-compared
returns-clause-compared g c = compared_at _ _ c.args.draft.now c.args.target.now _ _ _ _ c.lost_between.result
    c.in_ok-new.ensures.path c.in_ok-old.ensures.path c.lost_between.ensures.lost

pub returns-clause-uncompared : goal.returns-clause-uncompared
returns-clause-uncompared g c = uncompared_at _ _ c.args.draft.now c.args.target.now _ _ _ _ _ c.lost_between.result
    c.in_ok-new.ensures.path c.in_ok-old.ensures.path c.lost_between.ensures.unread
