use Rattle.std.proofs.Common.{◌∙◌, ap}
use Rattle.text_values.proofs.Fields.{no_fields, text_fields}
use Rattle.text_input_files.specs.Frames.{fields_frame}
use Rattle.text_input_files.proofs.frame_fields.read_frame.Goals as goal

pub returns-in-Ok : goal.returns-in-Ok
returns-in-Ok c = c.frame_in.ensures ∙ ap fields_frame (text_fields c.args.line.now c.in-Ok.text.now c.in-Ok.ensures.cases)

pub returns-in-Err : goal.returns-in-Err
returns-in-Err c = ap fields_frame (no_fields c.args.line.now c.in-Err.ensures.cases.0)
