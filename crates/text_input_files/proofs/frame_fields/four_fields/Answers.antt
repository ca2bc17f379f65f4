use Rattle.std.proofs.Common.{◌∙◌, sym}
use Rattle.text_input_files.proofs.FourFields.{four_cuts, longer}
use Rattle.text_input_files.proofs.frame_fields.four_fields.Goals as goal

pub returns-then-is_some : goal.returns-then-is_some
returns-then-is_some c =
    longer c.args.text.now _ _ _ _ c.cut_field-4.result.1
    (four_cuts c.args.text.now _ _ _ _ c.cut_field.result.1 c.cut_field-2.result.1 c.cut_field-3.result.1 c.cut_field-4.result.1
    c.in_ok-behind.field-0 c.in_ok-behind-2.field-0 c.in_ok-behind-3.field-0
    c.cut_field.ensures c.in_ok-behind.was c.cut_field-2.ensures c.in_ok-behind-2.was c.cut_field-3.ensures c.in_ok-behind-3.was c.cut_field-4.ensures)
    (sym c.is_some.ensures ∙ c.if-is_some.true)
