use Rattle.std.proofs.Common.{◌∙◌, sym}
use Rattle.cli_files.proofs.Compared.{apart_first, apart_more, met_at}
use Rattle.cli_files.proofs.identities.none_is_same_file.Goals as goal

pub inputs-init : goal.inputs-init
inputs-init g c = apart_first c.args.path.now (λ p. p.now) c.args.inputs.now c.args.calls.now.entries

pub inputs-preserved : goal.inputs-preserved
inputs-preserved g c = λ none.
    let said = c.is_same_file.ensures in
    apart_more c.args.path.now (λ p. p.now) c.args.inputs.now c.inputs.input-index _ c.inputs.calls.entries _ said.0 said.1
    c.inputs-test.true (c.inputs.invariant none) (sym said.2 ∙ c.if-is_same_file.false) said.3

pub returns-then-is_same_file-clause-met : goal.returns-then-is_same_file-clause-met
returns-then-is_same_file-clause-met g c = λ none _.
    let said = c.is_same_file.ensures in
    met_at c.args.path.now (λ p. p.now) c.args.inputs.now c.inputs.input-index _ c.inputs.calls.entries _ said.0 said.1
    c.inputs-test.true (c.inputs.invariant none) (sym said.2 ∙ c.if-is_same_file.true) said.3
