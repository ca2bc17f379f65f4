use Rattle.std.proofs.Common.{◌++◌, ◌∙◌, ap, codes, refl, subst, sym}
use Rattle.std.proofs.KnownBytes.{Appends-nil}
use Rattle.command_common.specs.Outputs.{writer}
use Rattle.cli_standard_error.specs.Ending.{EndsLine}
use Rattle.cli_standard_error.specs.StandardError.{SaysLine, reason_in}
use Rattle.cli_standard_error.proofs.ending.end_with_line_fault.Goals as goal

pub returns-in-Refused : goal.returns-in-Refused
returns-in-Refused g c =
    let standard_error = writer g.E.Sink.held g.E.Sink.failures c.args.errors.now c.say.new.errors in
    let told = writer g.P.Sink.held g.P.Sink.failures c.args.report.now c.args.report.now in
    subst (λ fault. EndsLine fault told standard_error 3) (sym c.in-Refused.is) (record {
      nothing_told = (Appends-nil _, refl);
      says = (
        c.say.result,
        subst (λ reason. SaysLine standard_error (codes "symarch: " ++ reason) c.say.result)
            (c.reason_in.ensures ∙ ap reason_in c.deref.ensures) c.say.ensures,
      );
      status_is = refl;
    })
