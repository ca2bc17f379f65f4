use Rattle.cli_files.specs.FileCalls.{first_bytes}
use Rattle.cli_files.proofs.Publishings.{begins_probes}
use Rattle.cli_files.proofs.Same.{asked_behind, on_err}
use Rattle.cli_files.proofs.Comparisons.{before_comparison}
use Rattle.cli_files.proofs.Said.{begun_uncompared, compared_tested}
use Rattle.cli_files.specs.declared.replaceable.ReplaceRule.TheVariants.{ArchivesBelow}
use Rattle.std.proofs.Common.{◌∙◌, ap, inr, not}
use Rattle.std.proofs.lemmas.Result.{err_from_is_err_and}
use Rattle.cli_files.proofs.losses.check_losses.Goals as goal

pub returns-in_err-lost-clause-refused : goal.returns-in_err-lost-clause-refused
returns-in_err-lost-clause-refused g c =
    let begun = c.in_ok-replaceable_beginning.ensures.begins in
    on_err c.from_residual-in_err-lost.result
    (asked_behind c.args.calls.now.entries c.replaceable_beginning.new.calls.entries c.lost_at.new.calls.entries begun.1 begun.3
    (begins_probes c.args.target.now _ begun.1 begun.2) c.in_err-lost.ensures.refused)

pub returns-in_err-lost-clause-said : goal.returns-in_err-lost-clause-said
returns-in_err-lost-clause-said g c =
    let begun = c.in_ok-replaceable_beginning.ensures.begins in
    let p = err_from_is_err_and c.from_residual-in_err-lost.result c.from_residual-in_err-lost.ensures.1 in
    rw (p.1, p.2) (c.in_err-lost.ensures.said ArchivesBelow
    (begun_uncompared c.args.target.now c.in_ok-replaceable_beginning.field-0 c.args.calls.now.entries c.replaceable_beginning.new.calls.entries
    begun.1 (c.is_none.ensures ∙ ap not c.if-is_none.false) c.in_ok-replaceable_beginning.ensures.kind begun.2 begun.3))

pub returns-in_err-replaceable_beginning-clause-uncompared : goal.returns-in_err-replaceable_beginning-clause-uncompared
returns-in_err-replaceable_beginning-clause-uncompared g c =
    let p = err_from_is_err_and c.from_residual.result c.from_residual.ensures.1 in
    rw (p.1, p.2) (before_comparison _ _ c.args.draft.now c.args.target.now _ _ c.in_err-replaceable_beginning.ensures.before)

pub returns-in_err-lost-clause-uncompared : goal.returns-in_err-lost-clause-uncompared
returns-in_err-lost-clause-uncompared g c =
    let p = err_from_is_err_and c.from_residual-in_err-lost.result c.from_residual-in_err-lost.ensures.1 in
    rw (p.1, p.2) c.in_err-lost.ensures.uncompared

pub returns-in-0-clause-tested : goal.returns-in-0-clause-tested
returns-in-0-clause-tested g c =
    let begun = c.in_ok-replaceable_beginning.ensures.begins in
    compared_tested c.args.draft.now c.args.target.now c.in_ok-replaceable_beginning.field-0 c.in_ok-lost.lost
    c.args.calls.now.entries c.replaceable_beginning.new.calls.entries c.lost_at.new.calls.entries begun.1
    (c.is_none.ensures ∙ ap not c.if-is_none.false) c.in_ok-replaceable_beginning.ensures.kind begun.2 begun.3
    c.in_ok-lost.ensures.lost c.in-0.is

pub returns-in-0-clause-compared : goal.returns-in-0-clause-compared
returns-in-0-clause-compared g c = inr (rw c.in-0.is at c.in_ok-lost.ensures.compared)
