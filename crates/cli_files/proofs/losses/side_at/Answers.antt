use Rattle.std.proofs.Common.{◌∙◌, append-nil, inl, inr, subst, sym}
use Rattle.cli_files.specs.Refusals.{IsUncompared}
use Rattle.cli_files.proofs.losses.side_at.Goals as goal

pub returns-in-Err-clause-said : goal.returns-in-Err-clause-said
returns-in-Err-clause-said g c = λ replaces last.
    c.refused.ensures.said c.«open».new.calls.entries replaces
    (inl (c.args.calls.now.entries, c.args.path.now, c.in-Err.ensures.calls))

pub returns-in-Err-side_of-clause-said : goal.returns-in-Err-side_of-clause-said
returns-in-Err-side_of-clause-said g c = λ replaces last.
    c.refused-in-Err-side_of.ensures.said c.«open».new.calls.entries replaces
    (inr (subst IsUncompared (sym (c.in-Ok.ensures.calls ∙ append-nil c.args.calls.now.entries)) last))
