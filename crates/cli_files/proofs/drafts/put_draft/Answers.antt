use Rattle.std.proofs.Common.{◌∙◌, ◌++◌, ◌∷◌, [], ap, string_bytes, ◌&&◌, true}
use Rattle.std.specs.IoError.{error_kind}
use Rattle.cli_files.specs.FileCalls.{Removes, failed}
use Rattle.cli_files.proofs.Publishings.{removed_unnamed, removed_unsynced, tested_probes}
use Rattle.cli_files.proofs.Same.{failed_probe}
use Rattle.cli_files.proofs.drafts.put_draft.Goals as goal

pub returns-in-Err-sync-clause-removed : goal.returns-in-Err-sync-clause-removed
returns-in-Err-sync-clause-removed g c =
    let draft = string_bytes c.args.draft.now.own.path in
    let target = string_bytes c.args.draft.now.target in
    let tested = c.in_default.ensures.tested in
    removed_unsynced draft c.args.calls.now.entries c.check_place.new.calls.entries
    (failed draft (error_kind c.in-Err-sync.error) ∷ []) c.remove_draft-in-Err-sync.new.calls.entries tested.0 tested.2
    (tested_probes c.args.replaces draft target tested.0 tested.1)
    (ap (λ b. b && true) (failed_probe draft (error_kind c.in-Err-sync.error)))
    (c.remove_draft-in-Err-sync.ensures ∙ ap (λ cs. cs ++ Removes draft ∷ []) c.in-Err-sync.ensures)

pub returns-in-Err-rename-clause-removed : goal.returns-in-Err-rename-clause-removed
returns-in-Err-rename-clause-removed g c =
    let draft = string_bytes c.args.draft.now.own.path in
    let target = string_bytes c.args.draft.now.target in
    let tested = c.in_default.ensures.tested in
    removed_unnamed draft c.args.calls.now.entries c.check_place.new.calls.entries c.sync.new.calls.entries
    c.rename.new.calls.entries c.remove_draft-in-Err-rename.new.calls.entries tested.0
    (failed c.deref.result.now (error_kind c.in-Err-rename.error)) tested.2
    (tested_probes c.args.replaces draft target tested.0 tested.1) c.in_default-sync.ensures
    (failed_probe c.deref.result.now (error_kind c.in-Err-rename.error)) c.in-Err-rename.ensures
    c.remove_draft-in-Err-rename.ensures
