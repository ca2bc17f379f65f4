use Rattle.text_values.proofs.Fields.{cut, uncut}
use Rattle.text_values.proofs.lines.cut_field.Goals as goal

pub returns-in-Some : goal.returns-in-Some
returns-in-Some c = cut c.args.text.now c.split_once.result (c.in-Some.field, c.in-Some.behind) c.split_once.ensures.cases c.in-Some.is

pub returns-in-None : goal.returns-in-None
returns-in-None c = uncut c.args.text.now c.split_once.result c.split_once.ensures.cases c.in-None.is
