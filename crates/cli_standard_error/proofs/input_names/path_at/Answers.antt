use Rattle.std.proofs.Common.{◌∙◌, ap}
use Rattle.std.specs.Prelude.{slice_get}
use Rattle.cli_arguments.specs.{LineView.line_view, Lines.inputs_of_kind}
use Rattle.cli_standard_error.specs.Names.{kind_of}
use Rattle.cli_standard_error.proofs.input_names.path_at.Goals as goal

pub returns : goal.returns
returns c =
    let line = line_view c.args.line.now in
    c.path_of.ensures ∙ ap (λ kind. slice_get (inputs_of_kind kind line) c.role_of-kind.result.1) c.role_of-kind.ensures.kind
    ∙ ap (slice_get (inputs_of_kind (kind_of c.args.name) line)) c.role_of-kind.ensures.number
