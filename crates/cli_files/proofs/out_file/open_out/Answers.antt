use Rattle.std.proofs.Common.{◌∙◌, ◌++◌, ◌∷◌, [], ap, string_bytes, subst, sym}
use Rattle.cli_files.specs.FileCalls.{Creates, taking}
use Rattle.cli_files.specs.OutFiles.{IsWayTo}
use Rattle.cli_files.proofs.Publishings.{begun_drafted, begun_through, drafted_bytes}
use Rattle.cli_files.proofs.Said.{target_last}
use Rattle.std.proofs.lemmas.Result.{err_from_is_err_and}
use Rattle.cli_files.specs.Publishing.{IsBeside, IsTargetOf, draft_mode}
use Rattle.cli_files.proofs.out_file.open_out.Goals as goal

pub returns-in-Ok-clause-calls : goal.returns-in-Ok-clause-calls
returns-in-Ok-clause-calls g c = λ none.
    let path = c.args.path.now in
    let probes = c.write_mode_of.new.calls.entries in
    let writable = subst (λ way. IsWayTo c.args.replaces path way probes) c.in-Through.is (c.in_ok-write_mode_of.ensures.way none) in
    (begun_through c.args.replaces path probes _ writable c.in-Ok.ensures).0

pub returns-in_ok-draft-in-Beside-clause-calls : goal.returns-in_ok-draft-in-Beside-clause-calls
returns-in_ok-draft-in-Beside-clause-calls g c = λ none.
    let path = c.args.path.now in
    let probes = c.write_mode_of.new.calls.entries in
    let draft = c.in_ok-draft-in-Beside.draft in
    let made = c.in_ok-draft-in-Beside.ensures in
    let way = subst (λ way. IsWayTo c.args.replaces path way probes) c.in-Beside.is (c.in_ok-write_mode_of.ensures.way none) in
    (begun_drafted c.args.replaces path (string_bytes draft.own.path) (string_bytes draft.target) probes _ made.created.0 way.2
    (subst (λ target. IsTargetOf c.args.replaces path (string_bytes target) probes) (sym made.target) way.0)
    (subst (λ target. IsBeside (string_bytes draft.own.path) (string_bytes target)) (sym made.target) made.beside)
    (made.created.1 ∙ ap (λ there. probes ++ taking made.created.0 ++ Creates (string_bytes draft.own.path) (draft_mode there) ∷ []) way.1)).0

pub returns-in_ok-draft-in-Beside-clause-bytes : goal.returns-in_ok-draft-in-Beside-clause-bytes
returns-in_ok-draft-in-Beside-clause-bytes g c = λ none.
    let path = c.args.path.now in
    let probes = c.write_mode_of.new.calls.entries in
    let draft = string_bytes c.in_ok-draft-in-Beside.draft.own.path in
    let created = c.in_ok-draft-in-Beside.ensures.created in
    let way = subst (λ way. IsWayTo c.args.replaces path way probes) c.in-Beside.is (c.in_ok-write_mode_of.ensures.way none) in
    drafted_bytes c.args.replaces path _ draft _ probes _ created.0 way.0 created.1

pub returns-in_err-draft-in-Beside-clause-said : goal.returns-in_err-draft-in-Beside-clause-said
returns-in_err-draft-in-Beside-clause-said g c = λ none.
    let path = c.args.path.now in
    let probes = c.write_mode_of.new.calls.entries in
    let way = subst (λ way. IsWayTo c.args.replaces path way probes) c.in-Beside.is (c.in_ok-write_mode_of.ensures.way none) in
    let last = target_last c.args.replaces path _ probes way.0 in
    let p = err_from_is_err_and c.from_residual-in_err-draft-in-Beside.result
    c.from_residual-in_err-draft-in-Beside.ensures.1 in
    rw (p.1, p.2) (c.in_err-draft-in-Beside.ensures.said c.args.replaces last.0 last.1 last.3 last.2)
