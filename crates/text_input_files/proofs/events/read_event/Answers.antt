use Rattle.std.proofs.Common.{◌≡◌, IfOk, ap, option_map, subst}
use Rattle.text_input_files.specs.Events.{act_of, fields_act}
use Rattle.text_values.proofs.Fields.{no_fields, text_fields}
use Rattle.text_input_files.proofs.events.read_event.Goals as goal

pub returns-in-Ok : goal.returns-in-Ok
returns-in-Ok c = subst (λ fs. IfOk c.event_in.result (λ event. option_map act_of event ≡ fields_act fs))
    (text_fields c.args.line.now c.in-Ok.text.now c.in-Ok.ensures.cases) c.event_in.ensures

pub returns-in-Err : goal.returns-in-Err
returns-in-Err c = ap fields_act (no_fields c.args.line.now c.in-Err.ensures.cases.0)
