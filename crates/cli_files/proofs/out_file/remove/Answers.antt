use Rattle.std.proofs.Common.{◌∙◌, refl, ap, subst, sym}
use Rattle.cli_files.specs.FileCalls.{bytes_in}
use Rattle.cli_files.specs.OutFiles.{IsSoFar, stage_of}
use Rattle.cli_files.proofs.Publishings.{bytes_same, removed_at_once, taken_back}
use Rattle.cli_files.proofs.out_file.remove.Goals as goal

pub returns-in-Drafted-clause-so_far : goal.returns-in-Drafted-clause-so_far
returns-in-Drafted-clause-so_far g c = λ replaces path so.
    subst (λ state. IsSoFar replaces path (stage_of state) c.remove_draft.new.calls.entries) (sym c.replace.ensures.after)
    (taken_back replaces path _ _ c.args.calls.now.entries _
    (subst (λ state. IsSoFar replaces path (stage_of state) c.args.calls.now.entries)
    (sym c.replace.ensures.value ∙ c.in-Drafted.is) so)
    (removed_at_once _ c.args.calls.now.entries _ c.remove_draft.ensures))

pub returns-in-Drafted-clause-removed : goal.returns-in-Drafted-clause-removed
returns-in-Drafted-clause-removed g c = λ replaces path so. taken_back replaces path _ _ c.args.calls.now.entries _
    (subst (λ state. IsSoFar replaces path (stage_of state) c.args.calls.now.entries)
    (sym c.replace.ensures.value ∙ c.in-Drafted.is) so)
    (removed_at_once _ c.args.calls.now.entries _ c.remove_draft.ensures)

pub returns-in-Drafted-clause-bytes : goal.returns-in-Drafted-clause-bytes
returns-in-Drafted-clause-bytes g c = ap bytes_in c.remove_draft.ensures ∙ bytes_same c.args.calls.now.entries _ refl
