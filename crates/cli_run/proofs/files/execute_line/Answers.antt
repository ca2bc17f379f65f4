use Rattle.std.proofs.Common.{◌≡◌, ◌∙◌, ℕ, List, [], ◌++◌, Some, None, refl, ap, option_map, string_bytes, subst, sym, append-nil}
use mathlib.Core.Logic.{∥∥₁_map}
use Rattle.std.specs.Io.KnownBytes.{Appends}
use Rattle.cli_files.specs.{FileCalls.bytes_in, Publishing.IsPublished, Publishing.IsRemoved, Publishing.account}
use Rattle.cli_files.specs.OutFiles.{draft_account, is_settled, published_account, publishing_calls, Untouched, stage_of}
use Rattle.cli_arguments.specs.{Inputs.inputs_view, LineView.line_view, Lines.inputs_of}
use Rattle.cli_run.specs.Files.{command_fault_of}
use Rattle.cli_run.proofs.OutPublished.{draft_took, first_from, none_asked, nothing_taken, nothing_there, published_there, settled_of, settled_without_calls}
use Rattle.cli_run.proofs.{Noting.told_done, Noting.unbegun, Saying.none_called, Outcomes.carried_outcome}
use Rattle.cli_run.proofs.files.execute_line.Goals as goal

pub returns-in_err-heap : goal.returns-in_err-heap
returns-in_err-heap g c = unbegun (λ notes. notes.items) _ _ _ c.from_residual.result c.from_residual.ensures.1
    (none_asked _ _) (none_called _ _ c.requires.files.6 c.requires.files.5) refl refl

pub returns-in_err-begin_out : goal.returns-in_err-begin_out
returns-in_err-begin_out g c = unbegun (λ notes. notes.items) _ _ _ c.from_residual-in_err-begin_out.result
    c.from_residual-in_err-begin_out.ensures.1 (0, c.begin_out.ensures.asked ∙ sym (append-nil _))
    (none_called _ _ c.begin_out.ensures.published c.begin_out.ensures.calls) refl refl

pub returns-in_err-inputs : goal.returns-in_err-inputs
returns-in_err-inputs g c = unbegun (λ notes. notes.items) _ _ _ c.from_residual-in_err-inputs.result
    c.from_residual-in_err-inputs.ensures.1 (first_from _ _ _ _ c.begin_out.ensures.asked c.inputs_for.ensures.first)
    (none_called _ _ (ap (λ out. out.target.published) c.inputs_for.ensures.out ∙ c.begin_out.ensures.published)
    (ap (λ out. out.draft.calls.entries) c.inputs_for.ensures.out ∙ c.begin_out.ensures.calls)) refl refl

pub returns : goal.returns
returns g c =
    let before = c.inputs_for.new.files.out in
    let same = c.inputs_for.ensures.out in
    let untouched : stage_of before.draft.state ≡ Untouched =
    ap (λ out. stage_of out.draft.state) same ∙ c.begin_out.ensures.untouched in
    let uncalled : before.draft.calls.entries ≡ [] = ap (λ out. out.draft.calls.entries) same ∙ c.begin_out.ensures.calls in
    let unfailed : before.draft.failures ≡ 0 = ap (λ out. out.draft.failures) same ∙ c.begin_out.ensures.unfailed in
    let unpublished : before.target.published ≡ None = ap (λ out. out.target.published) same ∙ c.begin_out.ensures.published in
    let done = c.execute_on-ended.new.out in
    let last = c.discard.new.self in
    let path = option_map string_bytes before.draft.path in
    let rule = before.draft.replaces in
    let begun : Some (draft_account (is_settled (stage_of before.draft.state)) path rule before.draft.calls.entries)
    ≡ Some (account path rule []) =
    ap (λ stage. Some (draft_account (is_settled stage) path rule before.draft.calls.entries)) untouched
    ∙ ap (λ calls. Some (account path rule (bytes_in calls))) uncalled in
    let none_before : published_account before.target.published ≡ None = ap published_account unpublished in
    let settled = is_settled (stage_of done.draft.state) in
    let after = option_map string_bytes done.draft.path in
    let took : (bytes : List ℕ)
    → Appends (Some (draft_account (is_settled (stage_of before.draft.state)) path rule before.draft.calls.entries))
    (Some (draft_account settled after done.draft.replaces done.draft.calls.entries)) bytes
    → (after ≡ path) × (done.draft.replaces ≡ rule) × (bytes_in done.draft.calls.entries ≡ bytes) =
    λ bytes is. draft_took settled path after rule done.draft.replaces done.draft.calls.entries bytes
    (subst (λ held. Appends held (Some (draft_account settled after done.draft.replaces done.draft.calls.entries)) bytes)
    begun is) in
    let none_called : (took_none : bytes_in done.draft.calls.entries ≡ [])
    → done.draft.failures ≡ before.draft.failures → published_account done.target.published ≡ published_account before.target.published
    → publishing_calls done.target.published ++ last.calls.entries ≡ [] =
    λ none as_often kept.
    ap (λ calls. calls ++ last.calls.entries) (nothing_there done.target.published (kept ∙ none_before))
    ∙ last.first (nothing_taken _ _ (c.discard.ensures.bytes ∙ none)
    (c.discard.ensures.failures ∙ as_often ∙ unfailed)) in
    let noted = c.execute_on-ended.new.notes.items in
    let carried = rw c.new-notes.ensures.items at (c.execute_on-ended.ensures (line_view c.args.line.now) c.requires.plan
    c.in_ok-inputs.ensures.inputs) in
    told_done (λ notes. notes.items) _ _ _ c.fault.result c.execute_on-ended.result noted c.told_with.result c.told_with.ensures
    (λ told notes same_told alike. record {
      path = path;
      replaces = rule;
      begun = before;
      done = done;
      ended = c.execute_on-ended.result;
      path_is = rw (c.inputs_for.ensures.compared, same) c.in_ok-begin_out.ensures.path;
      replaces_is = λ some.
          ap (λ out. out.draft.replaces) same ∙ c.in_ok-begin_out.ensures.rule some ∙ c.replace_rule.ensures;
      begun_is = begun;
      begun_unfailed = unfailed;
      nothing_published = none_before;
      asked = c.in_ok-inputs.ensures.asked
          ∙ ap (λ asked. asked ++ inputs_of (line_view c.args.line.now)) c.begin_out.ensures.asked;
      before = inputs_view c.in_ok-inputs.inputs;
      behind = inputs_view c.execute_on-ended.new.inputs;
      noted = noted;
      plan = c.args.plan.now;
      carried = carried;
      notes_are = alike;
      outcome = carried_outcome carried;
      published = λ text is.
          let there = published_there path rule done.target.published text
          (subst (λ held. Appends held (published_account done.target.published) text) begun is.published) in
          let gone : last.calls.entries ≡ [] = last.empty (settled_without_calls (stage_of last.state)
          (c.discard.ensures.settled ∙ settled_of settled after done.draft.replaces done.draft.calls.entries is.emptied)) in (
            there.0,
            there.1,
            ∥∥₁_map there.2 (λ whole. subst (λ calls. IsPublished there.0 rule text calls)
                (sym (ap (λ calls. publishing_calls done.target.published ++ calls) gone
                ∙ append-nil (publishing_calls done.target.published))) whole),
          );
      removed = λ not.
          let is = took not.bytes not.took in
          let gone : publishing_calls done.target.published ≡ [] =
          nothing_there done.target.published (not.kept ∙ none_before) in
          let called : publishing_calls done.target.published ++ last.calls.entries ≡ last.calls.entries =
          ap (λ calls. calls ++ last.calls.entries) gone in (
            ∥∥₁_map c.discard.ensures.removed (λ removed. subst (λ calls. IsRemoved rule path calls) (sym called)
                (subst (λ p. IsRemoved rule p last.calls.entries)
                (ap (option_map string_bytes) c.discard.ensures.path ∙ is.0)
                (subst (λ r. IsRemoved r (option_map string_bytes last.path) last.calls.entries)
                (c.discard.ensures.replaces ∙ is.1) removed))),
            ap bytes_in called ∙ c.discard.ensures.bytes ∙ is.2,
          );
      untouched = λ kept.
          let is = took [] kept.0.0 in none_called is.2 kept.0.1 kept.1.0;
      told_is = same_told ∙ ap (λ fault. command_fault_of fault c.execute_on-ended.result) c.fault.ensures;
    })

pub execute_on-ended-requires : goal.execute_on-ended-requires
execute_on-ended-requires g c = c.in_ok-inputs.ensures.enough c.args.plan.now c.requires.plan
