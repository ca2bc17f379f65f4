use Rattle.std.proofs.Common.{◌∙◌, sym, subst}
use Rattle.cli_files.specs.OutFiles.{IsSoFar, stage_of}
use Rattle.cli_files.proofs.Publishings.{hands_on_draft, hands_on_through, published_bytes, removed_bytes}
use Rattle.cli_files.proofs.out_file.publish_state.Goals as goal

pub returns-in-Through-clause-published : goal.returns-in-Through-clause-published
returns-in-Through-clause-published g c = λ _ path so. hands_on_through path c.args.replaces c.args.calls.now.entries
    (subst (λ state. IsSoFar c.args.replaces path (stage_of state) c.args.calls.now.entries)
    (sym c.replace.ensures.value ∙ c.in-Through.is) so)

pub returns-in-Ok-clause-published : goal.returns-in-Ok-clause-published
returns-in-Ok-clause-published g c = λ _ path so. hands_on_draft path _ _ _ c.args.calls.now.entries _
    (subst (λ state. IsSoFar c.args.replaces path (stage_of state) c.args.calls.now.entries)
    (sym c.replace.ensures.value ∙ c.in-Drafted.is) so)
    c.in-Ok.ensures.published

pub returns-in-Ok-clause-bytes : goal.returns-in-Ok-clause-bytes
returns-in-Ok-clause-bytes g c = published_bytes _ _ _ _ c.args.calls.now.entries _ c.in-Ok.ensures.published

pub returns-in-Drafted-clause-bytes : goal.returns-in-Drafted-clause-bytes
returns-in-Drafted-clause-bytes g c = removed_bytes _ c.args.calls.now.entries _ c.in-Err.ensures.removed
