use Rattle.std.proofs.Common.{◌∙◌}
use Rattle.text_input_files.proofs.NumberLemmas.{read_plain}
use Rattle.text_input_files.proofs.numbers.parse_digits.Goals as goal

pub returns : goal.returns
returns c = c.ok.ensures.value ∙ read_plain c.args.text.now c.parse.result c.parse.ensures.value.0 c.requires.plus c.requires.alone
