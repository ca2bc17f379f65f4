use Rattle.std.proofs.Common.{◌∙◌, ℕ, Bor, List, ap, map, sym}
use Rattle.cli_arguments.specs.{LineView.line_view, Lines.is_path_among}
use Rattle.cli_arguments.proofs.LineFaultLemmas.{out_refused}
use Rattle.cli_arguments.proofs.parsing.check_out.Goals as goal

pub returns-then-is_among-clause-told : goal.returns-then-is_among-clause-told
returns-then-is_among-clause-told c =
    out_refused (line_view c.args.line.now) c.in-Some.out.now c.out_is_input.result c.in-Some.ensures
    (ap (is_path_among c.in-Some.out.now)
    (sym (ap (map (λ (p : Bor (List ℕ)). p.now)) c.deref.ensures.value ∙ c.in_ok-inputs.ensures))
    ∙ sym c.if-is_among.ensures)
    c.out_is_input.ensures.told
