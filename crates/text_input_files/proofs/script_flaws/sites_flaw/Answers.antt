use Rattle.std.proofs.Common.{◌∙◌, ap}
use Rattle.text_input_files.specs.ScriptFlaws.{sites_flaw}
use Rattle.text_values.proofs.Fields.{no_fields, text_fields}
use Rattle.text_input_files.proofs.script_flaws.sites_flaw.Goals as goal

pub returns-in-Ok : goal.returns-in-Ok
returns-in-Ok c = c.sites_flaw_in.ensures ∙ ap sites_flaw (text_fields c.args.line.now c.in-Ok.text.now c.in-Ok.ensures.cases)

pub returns-in-Err : goal.returns-in-Err
returns-in-Err c = ap sites_flaw (no_fields c.args.line.now c.in-Err.ensures.cases.0)
