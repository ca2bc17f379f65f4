use Rattle.std.proofs.Common.{◌≡◌, ◌∙◌, ◌++◌, ◌∷◌, [], ap, rules, sym}
use denote.Enum.Bare.{same_true}
use Rattle.std.specs.IoError.{error_kind}
use Rattle.std.specs.contracts.io.ErrorKind.{the_type}
use Rattle.std.specs.declared.io.ErrorKind.TheVariants.{NotFound}
use Rattle.cli_files.specs.FileCalls.{failed}
use Rattle.cli_files.proofs.ways.write_mode_of.Goals as goal

pub returns-in-Err-clause-said : goal.returns-in-Err-clause-said
returns-in-Err-clause-said g c =
    let kind : error_kind c.in-Err.error ≡ NotFound =
    sym c.kind.ensures ∙ same_true the_type (search rules) _ _ (sym c.if-eq.ensures) in
    c.mode_for_new.ensures.said c.args.replaces c.args.calls.now.entries
    (c.in-Err.ensures ∙ ap (λ kind. c.args.calls.now.entries ++ failed c.args.path.now kind ∷ []) kind) kind
