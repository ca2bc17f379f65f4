use Rattle.std.proofs.lemmas.Result.{err_from_is_err_and}
use Rattle.command_common.proofs.Readers.{none_failed, none_touched}
use Rattle.command_common.proofs.Parts.{first_refused, held_together, other_refused}
use Rattle.command_common.proofs.together.read_parts.Goals as goal

pub returns-in_err-kept : goal.returns-in_err-kept
returns-in_err-kept g c =
    let p = err_from_is_err_and c.from_residual.result c.from_residual.ensures.1 in
    rw (p.1, p.2) (first_refused _ _ c.in_err-kept.field-0.0 c.in_err-kept.ensures
    (none_touched g.R.Source.left g.R.Source.failures c.args.others.now) (none_failed g.R.Source.left g.R.Source.failures c.args.others.now))

pub returns-in_err-join_parts : goal.returns-in_err-join_parts
returns-in_err-join_parts g c =
    let p = err_from_is_err_and c.from_residual-in_err-join_parts.result c.from_residual-in_err-join_parts.ensures.1 in
    let kept = c.in_ok-kept.ensures.is in
    rw (p.1, p.2) (other_refused _ _ c.in_err-join_parts.field-0.0 (kept.whole, kept.is_content, kept.text)
    c.in_ok-kept.ensures.unfailed c.in_err-join_parts.ensures)

pub returns : goal.returns
returns g c = record {
  is = held_together _ _ _ _ _ c.in_ok-kept.ensures.is c.in_ok-join_parts.ensures.is;
  unfailed = (c.in_ok-kept.ensures.unfailed, c.in_ok-join_parts.ensures.unfailed);
}
