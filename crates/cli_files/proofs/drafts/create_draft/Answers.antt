use Rattle.std.proofs.Common.{◌≡◌, ◌∙◌, ◌++◌, ◌∷◌, [], ap, arith, rules, string_bytes, sym}
use denote.Enum.Bare.{same_false, same_true}
use Rattle.std.proofs.lemmas.Slice.Eq.{bytes_eq-Decides}
use Rattle.std.specs.Path.{path_with_file_name}
use Rattle.std.specs.contracts.io.ErrorKind.{the_type}
use Rattle.std.specs.declared.io.ErrorKind.TheVariants.{AlreadyExists}
use Rattle.std.proofs.lemmas.Result.{err_from_is_err_and}
use Rattle.std.specs.IoError.{error_kind}
use Rattle.cli_files.proofs.DraftNames.{tried_asked, tried_failed, tried_last, tried_none, tried_refused, tried_taken, tried_target, uncreated_taken}
use Rattle.cli_files.proofs.Same.{on_err}
use Rattle.cli_files.specs.Publishing.{draft_name}
use Rattle.cli_files.proofs.drafts.create_draft.Goals as goal

pub names-init : goal.names-init
names-init g c = tried_none c.args.process (string_bytes c.args.target) c.args.calls.now.entries

pub returns-in_err-path-clause-said : goal.returns-in_err-path-clause-said
returns-in_err-path-clause-said g c = λ replaces before said first unfailed.
    let p = err_from_is_err_and c.from_residual.result c.from_residual.ensures.1 in
    rw (p.1, p.2) (tried_last c.args.process (string_bytes c.args.target) c.args.calls.now.entries
    c.names.calls.entries before said c.names.number c.names.invariant first unfailed)

pub returns-in_err-path-clause-refused : goal.returns-in_err-path-clause-refused
returns-in_err-path-clause-refused g c = on_err c.from_residual.result
    (tried_asked c.args.process (string_bytes c.args.target) c.args.calls.now.entries c.names.calls.entries
    c.names.number c.names.invariant)

pub names-preserved-then-eq : goal.names-preserved-then-eq
names-preserved-then-eq g c =
    let own = (bytes_eq-Decides (string_bytes c.in_ok-path.path) (string_bytes c.args.target)).0
    (sym c.eq.ensures ∙ c.if-eq.true) in
    let below = c.names-test.true in
    tried_target c.args.process (string_bytes c.args.target) c.args.calls.now.entries c.names.calls.entries c.names.number
    (omega (arith, below)) c.names.invariant
    (ap (λ target. path_with_file_name target (draft_name c.args.process c.names.number)) (sym c.deref.ensures)
    ∙ sym c.in_ok-path.ensures ∙ own)

pub names-preserved : goal.names-preserved
names-preserved g c =
    let path = string_bytes c.in_ok-path.path in
    let kind : error_kind c.in-Err.error ≡ AlreadyExists =
    sym c.kind.ensures ∙ same_true the_type (search rules) _ _ (sym c.if-eq-2.ensures) in
    tried_taken c.args.process (string_bytes c.args.target) path c.args.calls.now.entries c.names.calls.entries
    c.create_new.new.calls.entries c.names.number c.names.invariant
    (c.in-Err.ensures.calls
    ∙ ap (λ call. c.names.calls.entries ++ call ∷ []) (uncreated_taken path (error_kind c.in-Err.error) kind))

pub returns-in-Err-2-clause-refused : goal.returns-in-Err-2-clause-refused
returns-in-Err-2-clause-refused g c =
    tried_refused c.args.process (string_bytes c.args.target) _ _ c.args.calls.now.entries c.names.calls.entries _
    c.names.number c.names.invariant c.in-Err-2.ensures.calls

pub returns-in-Err-2-clause-said : goal.returns-in-Err-2-clause-said
returns-in-Err-2-clause-said g c = λ replaces before said first unfailed.
    tried_failed (string_bytes c.in_ok-path.path) c.names.calls.entries c.create_new.new.calls.entries c.in-Err.error replaces
    (λ kind. same_false the_type c.kind.result AlreadyExists (sym c.if-eq-2.ensures) (c.kind.ensures ∙ kind))
    c.in-Err.ensures.calls

pub returns-clause-refused : goal.returns-clause-refused
returns-clause-refused g c = tried_asked c.args.process (string_bytes c.args.target) c.args.calls.now.entries
    c.names.calls.entries c.names.number c.names.invariant
