use Rattle.std.proofs.Common.{◌≡◌, ◌<◌, length, arith, refl}
use Rattle.std.proofs.lemmas.Result.{err_from_is_err_and}
use Rattle.command_common.specs.Archives.{further_name}
use Rattle.command_common.specs.Inputs.{IsArchive, IsArchiveRefused}
use Rattle.command_common.proofs.Readers.{all_read, none_failed, one_more, refused_at, rest_kept, same_at, unfailed_more}
use Rattle.command_queries.proofs.NamesTogether.{added_archives, added_more, added_none}
use Rattle.command_queries.proofs.name.gather_others.Goals as goal

pub others-init : goal.others-init
others-init g c = record { added = added_none _ _ _; unfailed = none_failed g.R.Source.left g.R.Source.failures c.args.others.now; rest = refl }

pub others-preserved : goal.others-preserved
others-preserved g c =
    let got = c.in_ok-now.ensures.is in
    let lt : c.others.index < length c.args.others.now = omega arith in
    let is = same_at c.others.others c.args.others.now c.others.index c.index-others-index.result c.others.invariant.rest c.index-others-index.is in
    record {
      added = added_more _ _ _ _ _ c.args.found _ _ got.content (one_more _ _ _ _ _ _ _ lt c.others.auto.others is)
          c.others.invariant.added got.is_content (rw (← c.index-others-index.is) at got.text) got.is_true;
      unfailed = unfailed_more _ _ _ _ _ _ _ lt c.others.auto.others is c.others.invariant.unfailed
          (rw (← c.index-others-index.is) at c.in_ok-now.ensures.unfailed);
      rest = rest_kept c.others.others c.args.others.now c.others.index c.gather_input.new.input c.others.invariant.rest;
    }

pub returns-in_err-now : goal.returns-in_err-now
returns-in_err-now g c =
    let p = err_from_is_err_and c.from_residual.result c.from_residual.ensures.1 in
    let lt : c.others.index < length c.args.others.now = omega arith in
    let is = same_at c.others.others c.args.others.now c.others.index c.index-others-index.result c.others.invariant.rest c.index-others-index.is in
    rw (p.1, p.2) (refused_at _ _ further_name IsArchive IsArchiveRefused _ _ _ _ _ _ lt c.others.auto.others is
    (added_archives _ _ _ _ _ c.others.invariant.added) c.others.invariant.rest c.others.invariant.unfailed
    (rw (← c.index-others-index.is) at c.in_err-now.ensures))

pub returns : goal.returns
returns g c =
    let end : c.others.index ≡ length c.args.others.now = omega arith in
    record {
      is = rw (end, all_read g.R.Source.left g.R.Source.failures c.args.others.now c.others.others c.others.auto.others) at c.others.invariant.added;
      unfailed = c.others.invariant.unfailed;
    }
